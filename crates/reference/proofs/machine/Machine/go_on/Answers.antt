use Rattle.std.proofs.Common.{◌≡◌, ℕ, false, None, sym, ap, subst, ◌∙◌}
use Rattle.flat.specs.State.{IsAllowed}
use Rattle.flat.specs.Causes.{act_cause}
use Rattle.flat.specs.Steps.{retired}
use Rattle.reference.specs.Machines.{flat_of}
use Rattle.reference.proofs.Planned.{done_cause, can_carry}
use Rattle.reference.proofs.machine.Machine.go_on.Goals as goal

pub entry-entry-requires-clause-uncaused : goal.entry-entry-requires-clause-uncaused
entry-entry-requires-clause-uncaused c =
    let f = flat_of c.args.self.now in
    done_cause f.setting (f.hart c.args.id) false c.args.effect.now c.resolved-done.result c.requires.next c.resolved-done.ensures

pub retire-requires-clause-uncaused : goal.retire-requires-clause-uncaused
retire-requires-clause-uncaused c =
    let f = flat_of c.args.self.now in
    subst (λ (i : ℕ). act_cause f.setting (f.hart i) c.resolved-done.result.act ≡ None) (sym c.index-in-None.ensures.value)
    (done_cause f.setting (f.hart c.args.id) false c.args.effect.now c.resolved-done.result c.requires.next c.resolved-done.ensures)

pub returns-in_ok-retire-in-None-clause-carries : goal.returns-in_ok-retire-in-None-clause-carries
returns-in_ok-retire-in-None-clause-carries c =
    let f = flat_of c.args.self.now in
    can_carry f (flat_of c.retire.new.self) c.args.id c.args.word c.args.effect.now c.resolved-done.result c.entry-entry.result c.resolved-done.ensures
    c.requires.running c.requires.fetched c.requires.next (sym c.is_abort.ensures ∙ c.if-is_abort.false)
    (subst (λ (i : ℕ). IsAllowed f i c.resolved-done.result.act) c.index.ensures.value c.in-None.ensures.none)
    c.entry-entry.ensures
    (c.in_ok-retire-in-None.ensures.ok ∙ ap (λ (i : ℕ). retired f i c.resolved-done.result) c.index-in-None.ensures.value)
