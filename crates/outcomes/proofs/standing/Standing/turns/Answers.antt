use Rattle.std.proofs.Common.{◌++◌, List, sym, ap, subst, ◌∙◌}
use Rattle.std.specs.Prelude.{option_to_list}
use Rattle.isolation.specs.Moves.{IsFirstLocal}
use Rattle.outcomes.specs.declared.change.Turn.{Turn}
use Rattle.outcomes.specs.Standings.{flat_of}
use Rattle.outcomes.proofs.Turned.{first_in_order, first_there}
use Rattle.outcomes.proofs.standing.Standing.turns.Goals as goal

pub returns-in_ok-push_some-in-Some-clause-sound : goal.returns-in_ok-push_some-in-Some-clause-sound
returns-in_ok-push_some-in-Some-clause-sound c =
    let f = flat_of c.args.self.now in
    first_in_order c.args.self.now.scene.image.now f c.new.result (subst (IsFirstLocal f) (sym c.new.ensures) c.in-Some.ensures.some) c.in_ok-own-in-Some.field-0 c.push_some.new.turns.items
    (c.in_ok-push_some-in-Some.ensures ∙ ap (λ (l : List Turn). l ++ option_to_list c.in_ok-own-in-Some.field-0) c.new-turns.ensures.items)
    c.in_ok-own-in-Some.ensures.some

pub returns-in_ok-push_some-in-Some-clause-complete : goal.returns-in_ok-push_some-in-Some-clause-complete
returns-in_ok-push_some-in-Some-clause-complete c =
    let f = flat_of c.args.self.now in
    first_there c.args.self.now.scene.image.now f c.new.result (subst (IsFirstLocal f) (sym c.new.ensures) c.in-Some.ensures.some) c.in_ok-own-in-Some.field-0 c.push_some.new.turns.items
    (c.in_ok-push_some-in-Some.ensures ∙ ap (λ (l : List Turn). l ++ option_to_list c.in_ok-own-in-Some.field-0) c.new-turns.ensures.items)
    c.in_ok-own-in-Some.ensures.some c.in_ok-own-in-Some.ensures.none
