use Rattle.machine.specs.States.{geometry}
use Rattle.debugger.specs.Sessions.{IsIdle, Waits}
use Rattle.debugger.proofs.session.Session.step.Given as goal

-- the turns so far had no entry, and a hart runs
abbrev pub invariant-loop : goal.invariant-loop
invariant-loop g l = Waits (geometry g.row.SETS g.row.WAYS) l.counter l.fn.self l.self × (IsIdle g.row.SETS l.self → ⊥)
