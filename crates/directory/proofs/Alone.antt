-- Whether a hart is alone among the sharers of a block, by the set of the others.
use Rattle.std.proofs.Common.{◌≡◌, ◌≢◌, ◌<◌, ◌↔◌, ◌&&◌, ◌||◌, ◌==◌, ℕ, zero, suc, Bool, true, false, not, nat_lt, inl, inr, refl, arith}
use Rattle.std.proofs.lemmas.Bool.{cases_eq, cases_lt, and_parts}
use Rattle.std.proofs.lemmas.Bool.Decides.{nat_tests, same_from_decides}
use Rattle.std.specs.Prelude.{IsTrue}
use Rattle.protocol.specs.Directory.{is_alone}

module _ (r : ℕ) (sharers : ℕ → Bool) where
  -- no hart below n but r is a sharer
  abbrev NoOther : ℕ → Type 0
  NoOther n = (h : ℕ) → h < n → h ≢ r → sharers h ≡ false

  none_but : (n : ℕ) → is_alone n r sharers ≡ true → NoOther n
  none_but zero alone h low apart = absurd (omega arith)
  none_but (suc n) alone h low apart =
      let parts = and_parts (is_alone n r sharers) ((n == r) || not (sharers n)) alone in
      elim (cases_eq h n) [
        | inl same ↦ rw same (let other : n ≢ r = rw same at apart in grind (arith, nat_tests, parts.1, other))
        | inr below ↦ none_but n parts.0 h (omega arith) apart
      ]

  alone : (n : ℕ) → NoOther n → is_alone n r sharers ≡ true
  alone zero none = refl
  alone (suc n) none =
      let before : is_alone n r sharers ≡ true = alone n (λ h low. none h (omega arith)) in
      elim (cases_eq n r) [
        | inl same ↦ grind (arith, nat_tests, before, same)
        | inr other ↦ let last : sharers n ≡ false = none n (omega arith) other in grind (arith, nat_tests, before, last)
      ]

  -- the test of the others, which are the sharers below n without r
  pub is_alone-empty : (n : ℕ) (others : ℕ → Bool) (empty : Bool) → others r ≡ false → ((h : ℕ) → h ≢ r → others h ≡ sharers h && nat_lt h n)
      → (IsTrue empty ↔ ((h : ℕ) → others h ≡ false)) → empty ≡ is_alone n r sharers
  is_alone-empty n others empty own kept test =
      let none : IsTrue empty → NoOther n = λ is h low apart. grind (arith, nat_tests, test.0 is h, kept h apart) in
      let all : NoOther n → IsTrue empty = λ none. test.1 (λ h. elim (cases_eq h r) [
        | inl same ↦ rw same own
        | inr other ↦ elim (cases_lt h n) [
          | inl low ↦ grind (arith, nat_tests, kept h other, none h low other)
          | inr beyond ↦ grind (arith, nat_tests, kept h other)
        ]
      ]) in
      same_from_decides empty (is_alone n r sharers) (none, all) (none_but n, alone n)
