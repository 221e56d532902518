use Rattle.std.proofs.Common.{◌≤◌, ◌-◌, ℕ}
use Rattle.machine.specs.States.{geometry}
use Rattle.watch.specs.Runs.{TakesCounted}
use Rattle.watch.proofs.rows.take_arrivals.Given as goal

-- the arrivals so far
abbrev pub invariant-loop-taken : goal.invariant-loop-taken
invariant-loop-taken g l = (l.taken ≤ l.most) × ((after : ℕ) → TakesCounted (geometry g.row.SETS g.row.WAYS) l.fn.machine after l.taken l.machine after l.fn.tally l.tally)

abbrev pub decreases-loop-taken : goal.decreases-loop-taken
decreases-loop-taken g l = l.most - l.taken
