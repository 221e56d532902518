-- Which way of a set is found.
use Rattle.std.proofs.Common.{◌≡◌, ◌≢◌, ℕ, ◌<◌, Bool, true, false, cond, IsSome, Option, Some, None, List, length, get_or, set, refl, sym, ◌∙◌, arith, position, option_and_then, get_or-set_other, length-set, ltb, inl, inr}
use Rattle.std.specs.List.{position_or_len}
use Rattle.std.proofs.lemmas.List.Sums.{position_or_len_is, fails_before_first, passes_at_first}
use Rattle.std.proofs.lemmas.List.Folds.{position_or_len-set}
use Rattle.std.proofs.lemmas.Bool.Decides.{nat_tests}
use Rattle.std.proofs.lemmas.Bool.{cases_lt, lt-ltb, le-ltb}
use Rattle.std.proofs.lemmas.List.{get_or_past}
use Rattle.std.proofs.lemmas.List.Quantifiers.{position-Some}
use Rattle.cache.specs.declared.line.Line.{Line}
use Rattle.cache.specs.Ways.{holds, is_free, line_in}

-- the first place that passes is the position
pub position_is : {X : Type 0} (p : X → Bool) (xs : List X) (i : ℕ) (d : X) → i < length xs → p (get_or xs i d) ≡ true → ((k : ℕ) → k < i → p (get_or xs k d) ≡ false) → position p xs ≡ Some i
position_is p xs i d inside here before =
    let first : position_or_len p xs ≡ i = position_or_len_is p xs i d (omega arith) before (λ _. here) in
    rw first (grind (arith, nat_tests))

-- where none passes, there is no position
pub position_is_none : {X : Type 0} (p : X → Bool) (xs : List X) (d : X) → ((k : ℕ) → k < length xs → p (get_or xs k d) ≡ false) → position p xs ≡ None
position_is_none p xs d none =
    let past : position_or_len p xs ≡ length xs = position_or_len_is p xs (length xs) d (omega arith) none (λ h. absurd (omega arith)) in
    rw past (grind (arith, nat_tests))

-- what is known of the way that was found
pub record IsFirst (test : Option Line → Bool) (ways : List (Option Line)) (w : ℕ) : Type 0 where
  pub inside : w < length ways
  pub passes : test (get_or ways w None) ≡ true

pub is_first : (test : Option Line → Bool) (ways : List (Option Line)) (w : ℕ) → position test ways ≡ Some w → IsFirst test ways w
is_first test ways w found =
    let p : (w < length ways) × (test (get_or ways w None) ≡ true) × ((k : ℕ) → k < w → test (get_or ways k None) ≡ false) = position-Some test ways w None found in
    record { inside = p.0; passes = p.1 }

-- a way that passes is found, or one before it
pub some-position : (test : Option Line → Bool) (ways : List (Option Line)) (w : ℕ) → w < length ways → test (get_or ways w None) ≡ true → IsSome (position test ways)
some-position test ways w inside passes =
    elim (cases_lt (position_or_len test ways) (length ways)) [
      | inl k ↦ rw (lt-ltb (position_or_len test ways) (length ways) k) refl
      | inr k ↦ let fails : test (get_or ways w None) ≡ false = fails_before_first test ways w None (omega arith) in cc
    ]

-- a way that holds a block has a line of it
pub held : (b : ℕ) (way : Option Line) → holds b way ≡ true → (l : Line) × (way ≡ Some l) × (l.block ≡ b)
held b None h = cc
held b (Some l) h = (l, refl, grind (arith, nat_tests))

pub holds-own : (l : Line) → holds l.block (Some l) ≡ true
holds-own l = grind (arith, nat_tests)

-- a way with a line of another block, or none, does not hold this one
pub holds-other : (b : ℕ) (way : Option Line) → ((m : Line) → way ≡ Some m → m.block ≢ b) → holds b way ≡ false
holds-other b None h = refl
holds-other b (Some m) h = let ne : m.block ≢ b = h m refl in grind (arith, nat_tests)

-- a free way has no line
pub free_is_none : (way : Option Line) → is_free way ≡ true → way ≡ None
free_is_none None h = refl
free_is_none (Some l) h = cc

-- the line of a block that stands in one way, and in none before it
pub line_in-at : (b : ℕ) (ways : List (Option Line)) (w : ℕ) (l : Line) → w < length ways → get_or ways w None ≡ Some l → holds b (Some l) ≡ true → ((v : ℕ) → v < w → holds b (get_or ways v None) ≡ false) → line_in b ways ≡ Some l
line_in-at b ways w l inside here is before =
    let passes : holds b (get_or ways w None) ≡ true = rw here is in
    rw (position_is (holds b) ways w None inside passes before) here

-- a block that no way holds has no line
pub line_in-none : (b : ℕ) (ways : List (Option Line)) → ((v : ℕ) → v < length ways → holds b (get_or ways v None) ≡ false) → line_in b ways ≡ None
line_in-none b ways none = rw (position_is_none (holds b) ways None none) refl

-- where a way passes, the line is the one in the first that does
pub line_in-first : (b : ℕ) (ways : List (Option Line)) → position_or_len (holds b) ways < length ways → line_in b ways ≡ get_or ways (position_or_len (holds b) ways) None
line_in-first b ways h = rw (lt-ltb (position_or_len (holds b) ways) (length ways) h) refl

-- the line that is found stands in a way, and is of the block
pub record IsFound (b : ℕ) (ways : List (Option Line)) (l : Line) : Type 0 where
  pub way : ℕ
  pub inside : way < length ways
  pub here : get_or ways way None ≡ Some l
  pub of_block : l.block ≡ b

pub is_found : (b : ℕ) (ways : List (Option Line)) (l : Line) → line_in b ways ≡ Some l → IsFound b ways l
is_found b ways l found =
    elim (cases_lt (position_or_len (holds b) ways) (length ways)) [
      | inl h ↦
          let here : get_or ways (position_or_len (holds b) ways) None ≡ Some l = sym (line_in-first b ways h) ∙ found in
          let passes : holds b (Some l) ≡ true = rw here at (passes_at_first (holds b) ways None h) in
          record { way = position_or_len (holds b) ways; inside = h; here = here; of_block = grind (arith, nat_tests) }
      | inr h ↦ let none : line_in b ways ≡ None = rw (le-ltb (position_or_len (holds b) ways) (length ways) h) refl in absurd (cc)
    ]

-- a block without a line is held by no way
pub none-holds : (b : ℕ) (ways : List (Option Line)) (v : ℕ) → line_in b ways ≡ None → holds b (get_or ways v None) ≡ false
none-holds b ways v none =
    elim (cases_lt (position_or_len (holds b) ways) (length ways)) [
      | inl h ↦
          let passes : holds b (get_or ways (position_or_len (holds b) ways) None) ≡ true = passes_at_first (holds b) ways None h in
          let free : get_or ways (position_or_len (holds b) ways) None ≡ None = sym (line_in-first b ways h) ∙ none in
          let f : holds b None ≡ true = rw free at passes in cc
      | inr h ↦
          elim (cases_lt v (length ways)) [
            | inl k ↦ fails_before_first (holds b) ways v None (omega arith)
            | inr k ↦ rw (get_or_past ways v None k) refl
          ]
    ]

-- two readings agree where they agree inside the list
agree : (f g : ℕ → Option Line) (q n : ℕ) → (q < n → f q ≡ g q) → option_and_then f (cond (ltb q n) (Some q) None) ≡ option_and_then g (cond (ltb q n) (Some q) None)
agree f g q n h =
    elim (cases_lt q n) [
      | inl k ↦ rw (lt-ltb q n k) (h k)
      | inr k ↦ rw (le-ltb q n k) refl
    ]

-- a way that holds another block before and after leaves the line of this one
pub line_in-set_other : (b : ℕ) (ways : List (Option Line)) (w : ℕ) (x : Option Line) → holds b (get_or ways w None) ≡ false → holds b x ≡ false → line_in b (set ways w x) ≡ line_in b ways
line_in-set_other b ways w x before after =
    let alike : holds b x ≡ holds b (get_or ways w None) = after ∙ sym before in
    let q : ℕ = position_or_len (holds b) ways in
    let read : q < length ways → get_or (set ways w x) q None ≡ get_or ways q None =
    λ (h : q < length ways). get_or-set_other ways w q x None (λ (e : q ≡ w). let t : holds b (get_or ways w None) ≡ true = rw e at (passes_at_first (holds b) ways None h) in cc)
    in rw (position_or_len-set (holds b) ways w x None alike, length-set {A = Option Line}) (agree _ _ q (length ways) read)
