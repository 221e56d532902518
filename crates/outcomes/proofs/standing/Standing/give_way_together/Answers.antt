use Rattle.std.proofs.Common.{◌≡◌, ◌≢◌, ◌<◌, ℕ, arith, [], ◌∷◌, refl, sym, ap, subst, ◌∙◌}
use Rattle.words.specs.declared.cause.AbortCause.TheVariants.{Conflict}
use Rattle.words.specs.declared.entry.Entry.TheVariants.{Abort}
use Rattle.flat.specs.State.{Flat, FlatHart}
use Rattle.isolation.specs.Moves.{MayGiveWay}
use Rattle.outcomes.specs.Standings.{flat_of, changed}
use Rattle.outcomes.specs.Turns.{IsBack}
use Rattle.outcomes.proofs.Changed.{of_some, back_there, aborts_so, changed_elsewhere}
use Rattle.outcomes.proofs.standing.Standing.give_way_together.Goals as goal

pub returns-in-Some-2-clause-some : goal.returns-in-Some-2-clause-some
returns-in-Some-2-clause-some c =
    let image = c.args.self.now.scene.image.now in
    let f = flat_of c.args.self.now in
    let i = c.args.one in
    let j = c.args.other in
    let one = c.in-Some.first in
    let other = c.in-Some-2.second in
    let between = changed image f one in
    let back : IsBack image f i Conflict one = of_some c.in_ok-first.field-0 one (IsBack image f i Conflict) c.in-Some.is c.in_ok-first.ensures.some in
    let too : IsBack image f j Conflict other = of_some c.in_ok-second-in-Some.field-0 other (IsBack image f j Conflict) c.in-Some-2.is c.in_ok-second-in-Some.ensures.some in
    let first : MayGiveWay f i = subst (MayGiveWay f) c.index-i.ensures.value (c.may_give_way.ensures.yes c.if-not-may_give_way.false) in
    let second : MayGiveWay f j = subst (MayGiveWay f) c.index-j.ensures.value (c.may_give_way-else-not-may_give_way.ensures.yes c.if-not-may_give_way-2.false) in
    let ne : j ≢ one.id = λ e. omega (arith, e, back.id, c.requires.order) in
    let still : between.hart j ≡ f.hart j = changed_elsewhere image f one j ne in (
      (subst (λ k. k < f.setting.count) (sym back.id) first.running.hart, subst (λ k. k < f.setting.count) (sym too.id) c.requires.hart),
      (λ k. Abort (back.id k) Conflict ∷ Abort (too.id k) Conflict ∷ []),
      record {
        first = first;
        second = second;
        order = c.requires.order;
        alone = λ k ni nj. c.is_a_third_inside.ensures.no c.if-is_a_third_inside.false k (λ e. ni (e ∙ c.index-i.ensures.value)) (λ e. nj (e ∙ c.index-j.ensures.value));
        between = between;
        one = aborts_so f between i Conflict first.running (λ t. tt) (back_there image f f i Conflict one back refl);
        other = aborts_so between (changed image between other) j Conflict
            (record { hart = second.running.hart; runs = ap (λ (h : FlatHart). h.status) still ∙ second.running.runs }) (λ t. tt)
            (back_there image f between j Conflict other too still);
      },
    )
