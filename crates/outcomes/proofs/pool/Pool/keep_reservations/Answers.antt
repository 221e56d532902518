use Rattle.std.proofs.Common.{◌≡◌, ℕ, Some, sym, ap, subst, ◌∙◌}
use Rattle.std.specs.Prelude.{slice_get}
use Rattle.std.proofs.lemmas.Result.{IfOk-weaker}
use Rattle.outcomes.proofs.Same.{reservations_eq, same_reservations}
use Rattle.outcomes.proofs.Kept.{still_there}
use Rattle.outcomes.proofs.pool.Pool.keep_reservations.Goals as goal

pub returns-clause-kept : goal.returns-clause-kept
returns-clause-kept c =
    let there = c.in_ok-place.ensures.stored in
    IfOk-weaker c.number.result _ _
    (λ n is. subst (λ m. slice_get c.insert_full.new.self.keys m ≡ Some c.args.reservations) (sym is) (there.1 ∙ ap Some (sym (same_reservations c.args.reservations there.0 there.2))))
    c.number.ensures

pub returns-clause-grows : goal.returns-clause-grows
returns-clause-grows c = IfOk-weaker c.number.result _ _ (λ n is. record { harts = λ m x at. at; memories = λ m x at. at; reservations = λ m x at. still_there reservations_eq _ _ c.args.reservations c.in_ok-place.ensures.keys m x at }) c.number.ensures
