use Rattle.std.proofs.Common.{Ok}
use Rattle.flat.specs.State.{Flat}
use Rattle.render.specs.Reports.{harts_text}
use Rattle.texts.specs.Puts.{Puts}
use Rattle.render.proofs.reporting.put_harts.Given as goal

abbrev pub invariant-loop-number : goal.invariant-loop-number
invariant-loop-number g l = (f : Flat) → g.M.Engine.belongs f l.machine
    → Puts (g.S.Sink.state l.initial.sink) (g.S.Sink.state l.sink) (harts_text f l.number) (Ok tt)
