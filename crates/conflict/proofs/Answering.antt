-- Whether the harts that are expected have answered, by sets of harts.
use Rattle.std.proofs.Common.{◌≡◌, ◌<◌, ◌&&◌, ◌||◌, ◌↔◌, ◌∙◌, ℕ, zero, suc, Bool, true, false, not, nat_lt, inl, inr, refl, sym, arith}
use Rattle.std.proofs.lemmas.Bool.{and_parts, cases_eq, ltb-true}
use Rattle.std.proofs.lemmas.Bool.Decides.{nat_tests, same_from_decides}
use Rattle.std.specs.Prelude.{IsTrue}
use Rattle.protocol.specs.Requests.{have_answered}

module _ (expect answered : ℕ → Bool) where
  -- each hart below n that is expected has answered
  abbrev EachAnswered : ℕ → Type 0
  EachAnswered n = (h : ℕ) → h < n → expect h ≡ true → answered h ≡ true

  each : (n : ℕ) → have_answered n expect answered ≡ true → EachAnswered n
  each zero all h low asked = absurd (omega arith)
  each (suc n) all h low asked =
      let parts = and_parts (have_answered n expect answered) (not (expect n) || answered n) all in
      elim (cases_eq h n) [
        | inl same ↦ rw same (let last : expect n ≡ true = rw same at asked in grind (arith, parts.1, last))
        | inr below ↦ each n parts.0 h (omega arith) asked
      ]

  -- the last one needn't answer, or has
  last_answers : (e a : Bool) → (e ≡ true → a ≡ true) → not e || a ≡ true
  last_answers true a has = has refl
  last_answers false a has = refl

  all_of : (n : ℕ) → EachAnswered n → have_answered n expect answered ≡ true
  all_of zero all = refl
  all_of (suc n) all =
      let before : have_answered n expect answered ≡ true = all_of n (λ h low. all h (omega arith)) in
      let last : not (expect n) || answered n ≡ true = last_answers (expect n) (answered n) (all n (omega arith)) in
      rw before last

  -- the test whether the harts below n that are expected are a subset of those that have answered
  pub have_answered-subset : (n : ℕ) (asked : ℕ → Bool) (subset : Bool) → ((h : ℕ) → asked h ≡ expect h && nat_lt h n)
      → (IsTrue subset ↔ ((h : ℕ) → asked h ≡ true → answered h ≡ true)) → subset ≡ have_answered n expect answered
  have_answered-subset n asked subset first test =
      let some : IsTrue subset → EachAnswered n = λ is h low named. test.0 is h (grind (arith, nat_tests, first h)) in
      let all : EachAnswered n → IsTrue subset = λ each. test.1 (λ h named.
      let parts = and_parts (expect h) (nat_lt h n) (sym (first h) ∙ named) in
      each h (ltb-true h n parts.1) parts.0) in
      same_from_decides subset (have_answered n expect answered) (some, all) (each n, all_of n)
