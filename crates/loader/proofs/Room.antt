-- Segments that share no byte have no more bytes together than the memory in which they lie.
use Rattle.std.proofs.Common.{◌≡◌, ℕ, zero, suc, ◌+◌, ◌-◌, ◌≤◌, ◌<◌, true, false, List, [], ◌∷◌, length, get_or, take, min, refl, arith, length-append, inl, inr}
use Rattle.std.specs.List.{AllByRecursion}
use Rattle.std.proofs.lemmas.Bool.{cases_Bool, false_from_ne_true}
use Rattle.std.proofs.lemmas.Bool.Decides.{nat_tests}
use Rattle.std.proofs.lemmas.List.Folds.{length-flat_map-take}
use Rattle.table.specs.Program.{Segment, holds}
use Rattle.loader.specs.Programs.{IsSegment, IsApart, AreApart, Program, IsProgram}
use Rattle.loader.specs.Writing.{contents}

-- how many bytes of a segment lie below an address, and of all segments
abbrev below : ℕ → Segment → ℕ
below n s = min n (s.addr + s.size) - min n s.addr

abbrev all_below : ℕ → List Segment → ℕ
all_below n [] = 0
all_below n (s ∷ ss) = below n s + all_below n ss

-- one address further there is at most one byte more, and none where the segment doesn't hold it
one_more : (n : ℕ) (s : Segment) → below (suc n) s ≤ below n s + 1
one_more n s = omega arith

none_more : (n : ℕ) (s : Segment) → holds s n 1 ≡ false → below (suc n) s ≡ below n s
none_more n s free = grind (arith, nat_tests)

-- where one segment holds it, there is none more of the others
others_none_more : (n : ℕ) (s : Segment) (ts : List Segment) → AllByRecursion (IsApart s) ts → holds s n 1 ≡ true → all_below (suc n) ts ≡ all_below n ts
others_none_more n s [] apart held = refl
others_none_more n s (t ∷ ts) apart held =
    let free = false_from_ne_true (holds t n 1) (apart.0 n held) in
    rw (none_more n t free, others_none_more n s ts apart.1 held) refl

-- so there is at most one more of them all
all_one_more : (n : ℕ) (ss : List Segment) → AreApart ss → all_below (suc n) ss ≤ all_below n ss + 1
all_one_more n [] apart = omega arith
all_one_more n (s ∷ ss) apart =
    elim (cases_Bool (holds s n 1)) [
      | inl held ↦ omega (arith, one_more n s, others_none_more n s ss apart.0 held)
      | inr free ↦ omega (arith, none_more n s free, all_one_more n ss apart.1)
    ]

-- and below an address there are no more bytes than addresses
few_below : (n : ℕ) (ss : List Segment) → AreApart ss → all_below n ss ≤ n
few_below zero [] apart = omega arith
few_below zero (s ∷ ss) apart = omega (arith, few_below zero ss apart.1)
few_below (suc n) ss apart = omega (arith, all_one_more n ss apart, few_below n ss apart)

-- what is given of segments that end within 4 MiB
given_below : (ss : List Segment) → AllByRecursion IsSegment ss → length (contents ss) ≤ all_below 4194304 ss
given_below [] each = omega arith
given_below (s ∷ ss) each =
    let len = length-append s.bytes (contents ss) in
    omega (arith, len, each.0.given, each.0.end, given_below ss each.1)

pub contents_fit : (p : Program) → IsProgram p → length (contents p.segments) ≤ 4194304
contents_fit p sound = omega (arith, given_below p.segments sound.each, few_below 4194304 p.segments sound.apart)

-- what is given of the first segments and of the next one is no more than that of all
pub contents_up_to : (ss : List Segment) (i : ℕ) (d : Segment) → i < length ss → length (contents (take i ss)) + length (get_or ss i d).bytes ≤ length (contents ss)
contents_up_to ss i d lt = length-flat_map-take (λ s. s.bytes) ss i d lt
