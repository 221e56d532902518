-- Harts that are noted as fresh, or not, one after another.
use Rattle.std.proofs.Common.{◌≡◌, ◌≤◌, ◌+◌, ◌∙◌, ◌&&◌, ℕ, Bool, true, false, inl, inr, nat_lt, arith, refl, sym, ap}
use Rattle.std.proofs.lemmas.Bool.{cases_eq, le-ltb}
use Rattle.std.proofs.lemmas.Nat.Bits.{bit_at-pow_other, bit_at-pow_same}
use Rattle.std.specs.Prelude.{◌==◌, ◌^◌, ◌||◌, if◌then◌else◌}
use Rattle.flat.specs.Bytes.{put_at}
use Rattle.flat.proofs.Maps.{put_elsewhere, put_there}
use Rattle.words.specs.Harts.{names, IsNext}
use Rattle.machine.proofs.Asked.{named_next, named_all}
use Rattle.watch.specs.Kinds.{Fresh}
use Rattle.watch.proofs.Arrivals.{put_if}

-- those that are noted so far, of which the first is always
abbrev pub noted : ℕ → ℕ → ℕ → ℕ → Bool
noted r asked from i = (r == i) || (names asked i && nat_lt i from)

no_more : (b c : Bool) → (b || (c && false)) ≡ b
no_more true c = refl
no_more false true = refl
no_more false false = refl

merged : (a b c x o : Bool) → (if c then x else (if a || b then x else o)) ≡ (if a || (b || c) then x else o)
merged true b true x o = refl
merged true b false x o = refl
merged false true true x o = refl
merged false true false x o = refl
merged false false true x o = refl
merged false false false x o = refl

module _ (fresh : Fresh) (r asked : ℕ) where
  pub noted_first : (before after : Fresh) (i : ℕ) → after i ≡ put_at r (fresh r) before i → after i ≡ (if noted r asked 0 i then fresh i else before i)
  noted_first before after i is = is ∙ put_if r i fresh before ∙ ap (λ b. if b then fresh i else before i) (sym (ap (λ t. (r == i) || (names asked i && t)) (le-ltb i 0 (omega arith)) ∙ no_more (r == i) (names asked i)))

  pub noted_more : (from to : ℕ) (before mid after : Fresh) (i : ℕ) → IsNext asked from to → mid i ≡ (if noted r asked from i then fresh i else before i) → after i ≡ put_at to (fresh to) mid i
      → after i ≡ (if noted r asked (to + 1) i then fresh i else before i)
  noted_more from to before mid after i next so_far is =
      is ∙ put_if to i fresh mid ∙ ap (λ b. if to == i then fresh i else b) so_far ∙ merged (r == i) (names asked i && nat_lt i from) (to == i) (fresh i) (before i)
      ∙ ap (λ b. if (r == i) || b then fresh i else before i) (named_next asked from to next i)

  pub noted_all : (from : ℕ) (before after : Fresh) (i : ℕ) → ((h : ℕ) → from ≤ h → names asked h ≡ false) → after i ≡ (if noted r asked from i then fresh i else before i)
      → after i ≡ (if (r == i) || names asked i then fresh i else before i)
  noted_all from before after i none is = is ∙ ap (λ b. if (r == i) || b then fresh i else before i) (named_all asked from i none)

-- a hart that was put into a set of none, and is taken out again
pub taken_out : (i : ℕ) (more was : Fresh) → ((j : ℕ) → more j ≡ put_at i true was j) → ((j : ℕ) → was j ≡ false) → (j : ℕ) → was j ≡ put_at i false more j
taken_out i more was is none j = elim (cases_eq j i) [
  | inl same ↦ none j ∙ sym (put_there i false more) ∙ ap (put_at i false more) (sym same)
  | inr ne ↦ sym (put_elsewhere i j false more ne ∙ is j ∙ put_elsewhere i j true was ne)
]

-- a set of one hart, behind a set of none
pub named_alone : (fresh : Fresh) (i : ℕ) → ((j : ℕ) → fresh j ≡ false) → (j : ℕ) → names (2 ^ i) j ≡ put_at i true fresh j
unfolding names
named_alone fresh i none j = elim (cases_eq j i) [
  | inl same ↦ ap (names (2 ^ i)) same ∙ ap (λ (b : ℕ). b == 1) (bit_at-pow_same i) ∙ sym (put_there i true fresh) ∙ ap (put_at i true fresh) (sym same)
  | inr ne ↦ ap (λ (b : ℕ). b == 1) (bit_at-pow_other i j ne) ∙ sym (none j) ∙ sym (put_elsewhere i j true fresh ne)
]
