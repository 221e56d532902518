use Rattle.std.proofs.Common.{◌≡◌, ℕ, Bool, None, ap, sym, subst, ◌∙◌}
use Rattle.std.specs.Prelude.{IsOkAnd}
use Rattle.words.specs.declared.entry.Entry.{Entry}
use Rattle.flat.specs.State.{Flat}
use Rattle.flat.specs.Causes.{done_next, act_cause}
use Rattle.flat.specs.Steps.{Retires, retired}
use Rattle.reference.specs.Machines.{setting_of, flat_of, CanRetire}
use Rattle.reference.proofs.Checked.{none_retires, planned_retires}
use Rattle.reference.proofs.Planned.{can_cause}
use Rattle.reference.proofs.machine.Machine.check_retire.Goals as goal

pub retire-requires-clause-uncaused : goal.retire-requires-clause-uncaused
retire-requires-clause-uncaused c =
    let f = flat_of c.args.self.now in
    subst (λ (i : ℕ). act_cause f.setting (f.hart i) c.in-Some.effect.act ≡ None) (sym c.index.ensures.value)
    (can_cause f c.args.id c.in-Some.field-0-0 c.has_store.result c.in-Some.effect c.in-Some.planned c.in-Some.ensures.some)

pub returns-in-None-clause-refused : goal.returns-in-None-clause-refused
returns-in-None-clause-refused c _ g = none_retires (flat_of c.args.self.now) c.args.id c.args.entry.now g _
    (subst (λ (b : Bool). (w : ℕ) (e : Entry) (g : Flat) → IsOkAnd (done_next b (setting_of c.args.self.now) ((flat_of c.args.self.now).hart c.args.id)) (λ does. Retires (flat_of c.args.self.now) c.args.id w does e g) → ⊥) c.has_store.ensures c.in-None.ensures.none)

pub returns-clause-accepted : goal.returns-clause-accepted
returns-clause-accepted c _ =
    planned_retires (flat_of c.args.self.now) (flat_of c.retire.new.self) c.args.id c.in-Some.field-0-0 c.in-Some.effect c.args.entry.now c.in-Some.planned
    (subst (λ (b : Bool). CanRetire (flat_of c.args.self.now) c.args.id b c.in-Some.field-0-0 c.in-Some.effect c.in-Some.planned) c.has_store.ensures c.in-Some.ensures.some)
    (c.is_same.ensures.yes c.if-not-is_same.false) (c.in_ok-retire.ensures.ok ∙ ap (λ (i : ℕ). retired (flat_of c.args.self.now) i c.in-Some.effect) c.index.ensures.value)
