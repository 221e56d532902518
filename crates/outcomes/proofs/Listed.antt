-- A list of the numbers of which something holds, as they go up.
use Rattle.std.proofs.Common.{◌≡◌, ◌<◌, ◌+◌, ◌⊎◌, inl, inr, ℕ, arith, Bool, true, false, cond, List, [], ◌∷◌, ◌++◌, refl, sym, subst}
use Rattle.std.specs.List.{Contains}
use Rattle.std.proofs.lemmas.List.Elements.{Contains-append_left, Contains-push, Contains-push_cases}
use Rattle.outcomes.proofs.Together.{below_or_at}

-- those below n are listed, and no others
abbrev pub AreListed : (ℕ → Type 0) → List ℕ → ℕ → Type 0
AreListed P ks n = ((k : ℕ) → Contains ks k → P k) × ((k : ℕ) → k < n → P k → Contains ks k)

pub listed_more : (P : ℕ → Type 0) (old new : List ℕ) (n : ℕ) (yes : Bool) → new ≡ cond yes (old ++ n ∷ []) old → (yes ≡ true → P n) → (yes ≡ false → P n → ⊥)
    → AreListed P old n → AreListed P new (n + 1)
listed_more P old new n true is holds fails before = (
  λ k c. elim (Contains-push_cases old n k (subst (λ l. Contains l k) is c)) [ inl a ↦ before.0 k a | inr same ↦ subst P same (holds refl) ],
  λ k lt p. subst (λ l. Contains l k) (sym is) (elim (below_or_at k n lt) [
    | inl lower ↦ Contains-append_left old (n ∷ []) k (before.1 k lower p)
    | inr same ↦ subst (λ k. Contains (old ++ n ∷ []) k) (sym same) (Contains-push old n)
  ]),
)
listed_more P old new n false is holds fails before = (
  λ k c. before.0 k (subst (λ l. Contains l k) is c),
  λ k lt p. subst (λ l. Contains l k) (sym is) (elim (below_or_at k n lt) [
    | inl lower ↦ before.1 k lower p
    | inr same ↦ absurd (fails refl (subst P same p))
  ]),
)
