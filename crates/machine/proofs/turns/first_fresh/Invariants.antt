use Rattle.machine.specs.States.{hart_at}
use Rattle.machine.specs.Turns.{NoneFresh}
use Rattle.machine.proofs.turns.first_fresh.Given as goal

abbrev pub invariant-loop-i : goal.invariant-loop-i
invariant-loop-i g l = NoneFresh (hart_at g.row.SETS l.seats) l.i
