use Rattle.std.proofs.Common.{◌≡◌, ℕ, Ok, subst}
use Rattle.flat.specs.Causes.{next_of}
use Rattle.reference.specs.Machines.{setting_of, flat_of}
use Rattle.reference.proofs.Planned.{done_cause}
use Rattle.reference.proofs.machine.Machine.plan.Goals as goal

pub entry-entry-requires-clause-uncaused : goal.entry-entry-requires-clause-uncaused
entry-entry-requires-clause-uncaused c =
    let f = flat_of c.args.self.now in
    done_cause f.setting (f.hart c.args.id) c.args.succeeds c.in-Goes.effect c.resolved-effect.result
    (subst (λ (i : ℕ). next_of f.setting (f.hart i) ≡ Ok c.in-Goes.effect) c.index.ensures.value c.in-Goes.ensures.2) c.resolved-effect.ensures
