use Rattle.std.proofs.Common.{Ok}
use Rattle.std.specs.List.{flat_map, range_with_len}
use Rattle.texts.specs.Puts.{Puts}
use Rattle.timeline.specs.Timelines.{hart_lane}
use Rattle.timeline.proofs.chart.put_harts.Given as goal

abbrev pub invariant-loop-hart : goal.invariant-loop-hart
invariant-loop-hart g l =
    Puts (g.S.Sink.state l.initial.sink) (g.S.Sink.state l.sink) (flat_map hart_lane (range_with_len 0 l.hart)) (Ok tt)
