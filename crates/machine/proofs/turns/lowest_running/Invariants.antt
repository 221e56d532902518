use Rattle.machine.specs.States.{hart_at}
use Rattle.machine.specs.Turns.{NoneRuns}
use Rattle.machine.proofs.turns.lowest_running.Given as goal

abbrev pub invariant-loop-i : goal.invariant-loop-i
invariant-loop-i g l = NoneRuns (hart_at g.row.SETS l.seats) l.from l.i
