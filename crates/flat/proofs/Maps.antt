-- A map after a change at one place.
use Rattle.std.proofs.Common.{◌≡◌, ◌≢◌, ℕ, true, false, cond, refl, sym, ap, arith}
use Rattle.std.specs.Prelude.{◌==◌}
use Rattle.std.proofs.lemmas.Bool.Decides.{nat_tests}
use Rattle.flat.specs.Bytes.{put_at}

-- the test for equality says that two numbers are one
pub one_number : (j i : ℕ) → (j == i) ≡ true → j ≡ i
one_number j i e = grind (arith, nat_tests)

-- or that they are two
pub two_numbers : (j i : ℕ) → (j == i) ≡ false → j ≢ i
two_numbers j i e = grind (arith, nat_tests)

-- at the place stands the new value
pub put_there : {A : Type 0} (i : ℕ) (v : A) (old : ℕ → A) → put_at i v old i ≡ v
put_there i v old = let e : (i == i) ≡ true = grind (arith, nat_tests) in ap (λ b. cond b v (old i)) e

-- elsewhere the old one
pub put_elsewhere : {A : Type 0} (i j : ℕ) (v : A) (old : ℕ → A) → j ≢ i → put_at i v old j ≡ old j
put_elsewhere i j v old ne = let e : (j == i) ≡ false = grind (arith, nat_tests) in ap (λ b. cond b v (old j)) e

-- the value that stood there already changes nothing
pub put_again : {A : Type 0} (i j : ℕ) (old : ℕ → A) → put_at i (old i) old j ≡ old j
put_again i j old = elim (j == i) as (λ b. (j == i) ≡ b → cond b (old i) (old j) ≡ old j) [
  | true ↦ λ e. ap old (sym (one_number j i e))
  | false ↦ λ e. refl
] refl

-- of two changes at one place the second counts
pub put_over : {A : Type 0} (i j : ℕ) (v w : A) (old : ℕ → A) → put_at i v (put_at i w old) j ≡ put_at i v old j
put_over i j v w old = elim (j == i) as (λ b. cond b v (cond b w (old j)) ≡ cond b v (old j)) [ true ↦ refl | false ↦ refl ]

-- changes at two places may come in either order
pub put_in_turn : {A : Type 0} (i k j : ℕ) (v w : A) (old : ℕ → A) → i ≢ k → put_at i v (put_at k w old) j ≡ put_at k w (put_at i v old) j
put_in_turn i k j v w old ne = elim (j == i) as (λ b. (j == i) ≡ b → cond b v (put_at k w old j) ≡ cond (j == k) w (cond b v (old j))) [
  | true ↦ λ e.
      let here : j ≡ i = one_number j i e in
      let there : (j == k) ≡ false = grind (arith, nat_tests) in
      ap (λ b. cond b w v) (sym there)
  | false ↦ λ e. refl
] refl
