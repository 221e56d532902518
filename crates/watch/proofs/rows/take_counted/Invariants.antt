use Rattle.std.proofs.Common.{◌≤◌, ◌-◌}
use Rattle.std.specs.Prelude.{IsTrue}
use Rattle.machine.specs.States.{geometry}
use Rattle.machine.specs.Turns.{IsQuiescent}
use Rattle.watch.specs.Runs.{TakesCounted}
use Rattle.watch.proofs.rows.take_counted.Given as goal

-- the turns so far
abbrev pub invariant-loop-taken : goal.invariant-loop-taken
invariant-loop-taken g l =
    (l.taken ≤ l.most) × TakesCounted (geometry g.row.SETS g.row.WAYS) l.fn.machine l.fn.last.hart l.taken l.machine l.now.hart l.fn.tally l.tally × (IsTrue l.now.quiescent → IsQuiescent g.row.SETS l.machine)

abbrev pub decreases-loop-taken : goal.decreases-loop-taken
decreases-loop-taken g l = l.most - l.taken
