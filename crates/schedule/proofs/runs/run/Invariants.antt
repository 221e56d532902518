use Rattle.std.specs.Prelude.{IsTrue}
use Rattle.machine.specs.States.{geometry}
use Rattle.machine.specs.Turns.{IsQuiescent}
use Rattle.schedule.proofs.Seeing.{HasSeenSoFar}
use Rattle.schedule.proofs.runs.run.Given as goal

-- the choices were made, and then what comes behind them
abbrev pub invariant-loop-left : goal.invariant-loop-left
invariant-loop-left g l =
    let o = g.O.Observer in
    HasSeenSoFar (o.saw l.observer) (o.missed l.observer) (geometry g.row.SETS g.row.WAYS) l.choices (g.C.Chooser.behind l.chooser) l.steps l.left l.fn.machine l.machine l.last.hart l.fn.log l.log
    × (IsTrue l.last.quiescent → IsQuiescent g.row.SETS l.machine)

abbrev pub decreases-loop-left : goal.decreases-loop-left
decreases-loop-left g l = l.left
