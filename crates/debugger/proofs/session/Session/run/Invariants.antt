use Rattle.machine.specs.States.{geometry}
use Rattle.debugger.specs.Sessions.{RunsOn}
use Rattle.debugger.proofs.session.Session.run.Given as goal

-- the turns so far let the run go on
abbrev pub invariant-loop : goal.invariant-loop
invariant-loop g l = RunsOn (geometry g.row.SETS g.row.WAYS) l.counter l.fn.self l.self
