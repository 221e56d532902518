-- Sums up to a greatest number, and the greatest of some numbers.
use Rattle.std.proofs.Common.{◌≡◌, ◌≤◌, ◌+◌, ℕ, inl, inr, sym, ◌∙◌, ap, arith}
use Rattle.std.specs.Prelude.{max}
use Rattle.std.proofs.Math.Nat.{max-eq_left, max-eq_right, le-max_left, min-eq_left, min-eq_right, min-le_right}
use Rattle.std.proofs.lemmas.Bool.{cases_lt}
use Rattle.watch.specs.Traffic.{capped}

pub capped_low : (n : ℕ) → n ≤ 18446744073709551615 → capped n ≡ n
capped_low n low = min-eq_left low

capped_high : (n : ℕ) → 18446744073709551615 ≤ n → capped n ≡ 18446744073709551615
capped_high n high = min-eq_right high

pub capped_fits : (n : ℕ) → capped n ≤ 18446744073709551615
capped_fits n = min-le_right n 18446744073709551615

-- a sum that was capped, and more
pub capped_more : (a b : ℕ) → capped (capped a + b) ≡ capped (a + b)
capped_more a b = elim (cases_lt a 18446744073709551615) [
  | inl less ↦ ap (λ (n : ℕ). capped (n + b)) (capped_low a (omega (arith, less)))
  | inr high ↦ ap (λ (n : ℕ). capped (n + b)) (capped_high a high) ∙ capped_high (18446744073709551615 + b) (omega arith) ∙ sym (capped_high (a + b) (omega (arith, high)))
]

pub max_more : (a b c : ℕ) → max (max a b) c ≡ max a (max b c)
max_more a b c = elim (cases_lt a b) [
  | inl less ↦ ap (λ (n : ℕ). max n c) (max-eq_right {n = a} {m = b} (omega (arith, less))) ∙ sym (max-eq_right {n = a} {m = max b c} (let above : b ≤ max b c = le-max_left b c in omega (arith, less, above)))
  | inr high ↦ ap (λ (n : ℕ). max n c) (max-eq_left {n = a} {m = b} high) ∙ others high
]
  where
    others : b ≤ a → max a c ≡ max a (max b c)
    others high = elim (cases_lt b c) [
      | inl less ↦ ap (λ (n : ℕ). max a n) (sym (max-eq_right {n = b} {m = c} (omega (arith, less))))
      | inr low ↦ max-eq_left {n = a} {m = c} (omega (arith, high, low)) ∙ sym (max-eq_left {n = a} {m = b} high) ∙ ap (λ (n : ℕ). max a n) (sym (max-eq_left {n = b} {m = c} low))
    ]
