use Rattle.std.proofs.Common.{ap, ◌∙◌}
use Rattle.machine.specs.States.{State, shown, geometry}
use Rattle.machine.proofs.Reading.{same_setting}
use Rattle.machine.proofs.machine.Machine.text.Goals as goal

pub returns-clause-flat : goal.returns-clause-flat
returns-clause-flat g c = λ f b.
    c.text.ensures ∙ ap (λ (m : State). m.program.segments) c.self.view_is
    ∙ ap (λ s. s.segments) (same_setting (geometry g.row.SETS g.row.WAYS) f (shown g.row.SETS c.args.self.now) b)
