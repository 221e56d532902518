use Rattle.std.proofs.Common.{◌-◌}
use Rattle.words.specs.declared.entry.Step.TheVariants.{Deliver}
use Rattle.machine.specs.States.{geometry}
use Rattle.machine.specs.Watch.{IsEnabledByRule}
use Rattle.schedule.proofs.Drawing.{Draws}
use Rattle.schedule.proofs.chance.Chance.draw_arriving.Given as goal

-- of the messages so far that can arrive one was drawn
abbrev pub invariant-loop-flight : goal.invariant-loop-flight
invariant-loop-flight g l = Draws (λ number. IsEnabledByRule (geometry g.row.SETS g.row.WAYS) l.machine (Deliver number)) l.drawn l.arriving l.number

abbrev pub decreases-loop-flight : goal.decreases-loop-flight
decreases-loop-flight g l = l.machine.sent - l.number
