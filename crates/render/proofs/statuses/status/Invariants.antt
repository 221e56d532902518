use Rattle.flat.specs.State.{Flat}
use Rattle.render.specs.Statuses.{IsGreatest, IsReported}
use Rattle.render.proofs.statuses.status.Given as goal

abbrev pub invariant-loop-number : goal.invariant-loop-number
invariant-loop-number g l = record {
  greatest : (f : Flat) → g.M.Engine.belongs f l.machine → IsGreatest f l.number l.greatest;
  reported : IsReported l.greatest;
}
