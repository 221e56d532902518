use Rattle.std.proofs.Common.{Ok}
use Rattle.std.specs.List.{flat_map, range_with_len}
use Rattle.texts.specs.Puts.{Puts}
use Rattle.pages.specs.Harts.{hart_item}
use Rattle.pages.proofs.harts.put_harts.Given as goal

abbrev pub invariant-loop-number : goal.invariant-loop-number
invariant-loop-number g l =
    Puts (g.S.Sink.state l.initial.sink) (g.S.Sink.state l.sink) (flat_map (hart_item l.names g.row.SETS l.machine) (range_with_len 0 l.number)) (Ok tt)
