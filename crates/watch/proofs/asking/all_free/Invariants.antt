use Rattle.std.proofs.Common.{◌<◌, ℕ}
use Rattle.machine.specs.States.{shown}
use Rattle.watch.specs.Runs.{IsFree}
use Rattle.watch.proofs.asking.all_free.Given as goal

-- the harts so far are free
abbrev pub invariant-loop-i : goal.invariant-loop-i
invariant-loop-i g l = (j : ℕ) → j < l.i → IsFree ((shown g.row.SETS l.machine).harts j)
