use Rattle.words.specs.declared.entry.Step.TheVariants.{Core}
use Rattle.machine.specs.States.{geometry}
use Rattle.machine.specs.Watch.{IsEnabledByRule}
use Rattle.schedule.proofs.Drawing.{Draws}
use Rattle.schedule.proofs.chance.Chance.draw_ready.Given as goal

-- of the harts so far that have a step to make one was drawn
abbrev pub invariant-loop-number : goal.invariant-loop-number
invariant-loop-number g l = Draws (λ i. IsEnabledByRule (geometry g.row.SETS g.row.WAYS) l.machine (Core i)) l.drawn l.ready l.number
