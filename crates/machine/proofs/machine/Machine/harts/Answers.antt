use Rattle.std.proofs.Common.{length, sym, ap, ◌∙◌}
use Rattle.machine.specs.States.{State, shown, geometry}
use Rattle.machine.proofs.Reading.{same_setting}
use Rattle.machine.proofs.machine.Machine.harts.Goals as goal

pub returns-clause-flat : goal.returns-clause-flat
returns-clause-flat g c = λ f b.
    c.harts.ensures.value ∙ sym c.self.invariant.count ∙ ap (λ (m : State). length m.seats) c.self.view_is
    ∙ ap (λ s. s.count) (same_setting (geometry g.row.SETS g.row.WAYS) f (shown g.row.SETS c.args.self.now) b)
