-- One of the numbers that pass a test is drawn, as they are met one after another.
use Rattle.std.proofs.Common.{◌≡◌, ◌<◌, ◌≤◌, ◌+◌, ℕ, Bool, true, false, Option, Some, None, refl, arith, subst, below_more}
use Rattle.std.specs.Prelude.{IfSome, IfNone}

-- so many of the numbers below one pass, and one of them was drawn, if there is any
pub record Draws (test : ℕ → Bool → Type 0) (drawn : Option ℕ) (count n : ℕ) : Type 0 where
  pub few : count ≤ n
  pub passes : IfSome drawn (λ k. test k true)
  pub none : drawn ≡ None → (count ≡ 0) × ((k : ℕ) → k < n → test k false)

pub draws_first : (test : ℕ → Bool → Type 0) → Draws test None 0 0
draws_first test = record { few = omega arith; passes = tt; none = λ is. (refl, λ k less. absurd (omega (arith, less))) }

module _ (test : ℕ → Bool → Type 0) (drawn : Option ℕ) (count n : ℕ) (before : Draws test drawn count n) where
  -- those up to another fail
  pub draws_past : (m : ℕ) → n ≤ m → (((k : ℕ) → k < n → test k false) → (k : ℕ) → k < m → test k false) → Draws test drawn count m
  draws_past m up fails = record { few = let f = before.few in omega (arith, f); passes = before.passes; none = λ is. let b = before.none is in (b.0, fails b.1) }

  -- another is drawn
  pub draws_it : (k : ℕ) → k ≡ n → test k true → Draws test (Some k) (count + 1) (n + 1)
  draws_it k is passes = record { few = let f = before.few in omega (arith, f); passes = passes; none = λ is. absurd (cc) }

  -- or the one before stays, if there is one
  pub draws_on : (index : ℕ) → index < count + 1 → (index ≡ 0 → ⊥) → Draws test drawn (count + 1) (n + 1)
  draws_on index less not_first = record {
    few = let f = before.few in omega (arith, f);
    passes = before.passes;
    none = λ is. let b = before.none is in let first : index ≡ 0 = omega (arith, less, b.0) in absurd (not_first first);
  }

  -- it doesn't pass
  pub draws_none : (k : ℕ) → k ≡ n → test k false → Draws test drawn count (n + 1)
  draws_none k same fails = record {
    few = let f = before.few in omega (arith, f);
    passes = before.passes;
    none = λ is. let b = before.none is in (b.0, below_more (λ i. test i false) n b.1 (subst (λ (j : ℕ). test j false) same fails));
  }

-- where none was drawn all fail, if those behind do
pub none_drawn : (test : ℕ → Bool → Type 0) (drawn : Option ℕ) (count n : ℕ) → Draws test drawn count n → (((k : ℕ) → k < n → test k false) → (k : ℕ) → test k false) → IfNone drawn ((k : ℕ) → test k false)
none_drawn test None count n draws rest = rest (draws.none refl).1
none_drawn test (Some k) count n draws rest = tt
