use Rattle.std.proofs.Common.{◌-◌}
use Rattle.machine.specs.States.{shown}
use Rattle.schedule.proofs.Finding.{NoneBelow}
use Rattle.schedule.proofs.step.find.Given as goal

-- none of the messages so far has the name
abbrev pub invariant-loop-flight : goal.invariant-loop-flight
invariant-loop-flight g l = NoneBelow (shown g.row.SETS l.machine) l.name l.number

abbrev pub decreases-loop-flight : goal.decreases-loop-flight
decreases-loop-flight g l = l.machine.sent - l.number
