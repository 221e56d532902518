-- The lowest number with a property that can be tested.
use Rattle.std.proofs.Common.{◌<◌, ◌⊎◌, ℕ, suc, zero, inl, inr, arith, subst}
use Rattle.std.proofs.lemmas.Bool.{cases_lt}

-- a number has the property, and none below it
pub record IsLowest (P : ℕ → Type 0) (i : ℕ) : Type 0 where
  pub here : P i
  pub below : (k : ℕ) → k < i → P k → ⊥

-- no number below a limit has it
abbrev pub NoneBelow : (ℕ → Type 0) → ℕ → Type 0
NoneBelow P n = (k : ℕ) → k < n → P k → ⊥

-- below a limit there is a lowest one, or none
pub lowest_below : (P : ℕ → Type 0) → ((i : ℕ) → P i ⊎ (P i → ⊥)) → (n : ℕ) → ((i : ℕ) × IsLowest P i) ⊎ NoneBelow P n
lowest_below P test zero = inr (λ k lt p. absurd (omega (arith, lt)))
lowest_below P test (suc n) = elim (lowest_below P test n) [
  | inl found ↦ inl found
  | inr none ↦ elim (test n) [
    | inl here ↦ inl (n, record { here = here; below = none })
    | inr not ↦ inr (λ k lt p. elim (cases_lt k n) [
      | inl less ↦ none k less p
      | inr more ↦ not (subst P (omega (arith, lt, more)) p)
    ])
  ]
]
