use Rattle.std.proofs.Common.{◌≡◌, ℕ, Some, refl, sym, ap, subst, ◌∙◌}
use Rattle.std.specs.Prelude.{slice_get}
use Rattle.std.proofs.lemmas.Result.{IfOk-weaker, on_ok_weaker}
use Rattle.outcomes.specs.declared.hart.Hart.{Hart}
use Rattle.outcomes.specs.Harts.{hart_of}
use Rattle.outcomes.proofs.Same.{hart_eq, same_hart}
use Rattle.outcomes.proofs.Kept.{still_there}
use Rattle.outcomes.proofs.pool.Pool.keep_hart.Goals as goal

pub returns-clause-kept : goal.returns-clause-kept
returns-clause-kept c =
    let there = c.in_ok-place.ensures.stored in
    IfOk-weaker c.number.result _ _
    (λ n is. (there.0, subst (λ m. slice_get c.insert_full.new.self.keys m ≡ Some there.0) (sym is) there.1, λ size. sym (same_hart c.args.hart there.0 there.2 size)))
    c.number.ensures

pub returns-clause-grows : goal.returns-clause-grows
returns-clause-grows c = IfOk-weaker c.number.result _ _ (λ n is. record { harts = λ m x at. still_there hart_eq _ _ c.args.hart c.in_ok-place.ensures.keys m x at; memories = λ m x at. at; reservations = λ m x at. at }) c.number.ensures
