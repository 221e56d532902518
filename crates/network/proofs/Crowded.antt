-- Numbers that are each under a key are as many as messages at most.
use Rattle.std.proofs.Common.{◌≡◌, ◌≢◌, ◌<◌, ◌≤◌, ◌+◌, ℕ, zero, suc, inl, inr, List, length, Option, Some, None, cond, get_or, set, sym, ap, ◌∙◌, arith}
use Rattle.std.specs.Prelude.{is_some, count_by}
use Rattle.std.proofs.lemmas.Bool.{cases_lt}
use Rattle.std.proofs.lemmas.List.{get_or_past, get_or-set_other}
use Rattle.std.proofs.lemmas.List.Sums.{sum_by-set}
use Rattle.std.proofs.lemmas.Option.{same_Some, none-some}
use Rattle.network.specs.declared.net.Flight.{Flight}
use Rattle.network.proofs.Under.{IsHeld}

-- a message lies below the end of the slots
pub inside : (slots : List (Option Flight)) (key : ℕ) (f : Flight) → get_or slots key None ≡ Some f → key < length slots
inside slots key f at = elim (cases_lt key (length slots)) [
  | inl k ↦ k
  | inr k ↦ absurd (none-some f (sym (get_or_past slots key None (omega arith)) ∙ at))
]

-- one fewer without it
pub one_fewer : (slots : List (Option Flight)) (key : ℕ) (f : Flight) → get_or slots key None ≡ Some f → count_by is_some (set slots key None) + 1 ≡ count_by is_some slots
one_fewer slots key f at =
    let sums = sum_by-set (λ (o : Option Flight). cond (is_some o) 1 0) slots key None None (inside slots key f at) in
    let one : ℕ = 1 in let here : cond (is_some (get_or slots key None)) 1 0 ≡ one = ap (λ (o : Option Flight). cond (is_some o) 1 0) at in
    omega (arith, sums, here)

pub crowded : (n : ℕ) (slots : List (Option Flight)) → ((number : ℕ) → number < n → IsHeld slots number) → n ≤ count_by is_some slots
crowded zero slots held = omega arith
crowded (suc n) slots held =
    let last = held n (omega arith) in
    let fewer = one_fewer slots last.0 last.1 last.2 in
    let more = crowded n (set slots last.0 None) (λ number lower.
    let one = held number (omega (arith, lower)) in
    let apart : one.0 ≢ last.0 = λ same.
    let flights : Some one.1 ≡ Some last.1 = sym one.2 ∙ ap (λ k. get_or slots k None) same ∙ last.2 in
    omega (arith, ap (λ (x : Flight). x.number) (same_Some one.1 last.1 flights), one.3, last.3, lower) in
    (one.0, one.1, get_or-set_other slots last.0 one.0 None None apart ∙ one.2, one.3)) in
    omega (arith, fewer, more)
