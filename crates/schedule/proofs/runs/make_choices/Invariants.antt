use Rattle.std.proofs.Common.{◌≡◌, ◌+◌}
use Rattle.machine.specs.States.{geometry}
use Rattle.schedule.specs.Begun.{HasSeen}
use Rattle.schedule.proofs.runs.make_choices.Given as goal

-- the choices so far were made
abbrev pub invariant-loop-choice : goal.invariant-loop-choice
invariant-loop-choice g l =
    HasSeen (g.O.Observer.saw l.observer) (geometry g.row.SETS g.row.WAYS) l.choices l.choice-index l.fn.machine l.machine l.hart l.fn.log l.log
    × (l.choice-index + l.left ≡ l.steps)
