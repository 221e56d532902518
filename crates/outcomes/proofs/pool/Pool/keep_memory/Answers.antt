use Rattle.std.proofs.Common.{◌≡◌, ℕ, Some, refl, sym, ap, subst, ◌∙◌}
use Rattle.std.specs.Prelude.{slice_get}
use Rattle.std.proofs.lemmas.Result.{IfOk-weaker}
use Rattle.outcomes.specs.declared.memory.Memory.{Memory}
use Rattle.outcomes.specs.Harts.{mem_at}
use Rattle.outcomes.proofs.Same.{memory_eq, same_memory_by}
use Rattle.outcomes.proofs.Copies.{same_memory}
use Rattle.outcomes.proofs.Kept.{still_there}
use Rattle.outcomes.proofs.pool.Pool.keep_memory.Goals as goal

pub returns-clause-kept : goal.returns-clause-kept
returns-clause-kept c =
    let there = c.in_ok-place.ensures.stored in
    IfOk-weaker c.number.result _ _
    (λ n is. (there.0, subst (λ m. slice_get c.insert_full.new.self.keys m ≡ Some there.0) (sym is) there.1, λ image a. sym (same_memory image c.args.memory there.0 a (same_memory_by c.args.memory there.0 there.2))))
    c.number.ensures

pub returns-clause-grows : goal.returns-clause-grows
returns-clause-grows c = IfOk-weaker c.number.result _ _ (λ n is. record { harts = λ m x at. at; memories = λ m x at. still_there memory_eq _ _ c.args.memory c.in_ok-place.ensures.keys m x at; reservations = λ m x at. at }) c.number.ensures
