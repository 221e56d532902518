use Rattle.std.proofs.Common.{take, Ok}
use Rattle.std.specs.List.{flat_map}
use Rattle.texts.specs.Puts.{Puts}
use Rattle.timeline.specs.Drawings.{bar_of}
use Rattle.timeline.proofs.drawing.put_bars.Given as goal

abbrev pub invariant-loop-row : goal.invariant-loop-row
invariant-loop-row g l =
    Puts (g.S.Sink.state l.initial.sink) (g.S.Sink.state l.sink) (flat_map (bar_of l.harts l.rows) (take l.row-index l.rows)) (Ok tt)
