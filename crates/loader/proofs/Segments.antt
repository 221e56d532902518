-- A program's segments: laid one after another, the last first; and where they end.
use Rattle.std.proofs.Common.{◌≡◌, ◌<◌, ◌≤◌, ◌+◌, ◌-◌, ℕ, arith, Bool, true, false, List, [], ◌∷◌, get_or, drop, length, refl, sym, ap, ◌∙◌}
use Rattle.std.specs.Prelude.{◌&&◌, nat_le}
use Rattle.std.specs.List.{list_all}
use Rattle.std.proofs.lemmas.Bool.Decides.{nat_tests}
use Rattle.std.proofs.lemmas.List.{drop_more}
use Rattle.table.specs.Program.{Segment}
use Rattle.flat.specs.Boots.{ends_by}

-- the last so many segments and one more, which is the segment s
pub one_more : (ss : List Segment) (k : ℕ) (s : Segment) → k < length ss → s ≡ get_or ss (length ss - 1 - k) s → drop (length ss - (k + 1)) ss ≡ s ∷ drop (length ss - k) ss
one_more ss k s lt is =
    let at : length ss - (k + 1) ≡ length ss - 1 - k = omega arith in
    let next : length ss - (k + 1) + 1 ≡ length ss - k = omega arith in
    drop_more ss (length ss - (k + 1)) s (omega arith)
    ∙ (λ i. (ap (λ j. get_or ss j s) at ∙ sym is) i ∷ drop (next i) ss)

-- what ends by a limit ends by a greater one
pub all_end_by : (low high : ℕ) (ss : List Segment) → low ≤ high → list_all (ends_by low) ss ≡ true → list_all (ends_by high) ss ≡ true
all_end_by low high [] le e = refl
all_end_by low high (s ∷ ss) le e =
    let both = and_true (ends_by low s) (list_all (ends_by low) ss) e in
    and_both (ends_by high s) (list_all (ends_by high) ss) (ends_later low high (s.addr + s.size) le both.0) (all_end_by low high ss le both.1)
  where
    and_true : (a b : Bool) → (a && b) ≡ true → (a ≡ true) × (b ≡ true)
    and_true true true e = (refl, refl)
    and_true true false e = cc
    and_true false b e = cc

    and_both : (a b : Bool) → a ≡ true → b ≡ true → (a && b) ≡ true
    and_both true true e f = refl
    and_both true false e f = f
    and_both false b e f = e

    ends_later : (low high end : ℕ) → low ≤ high → nat_le end low ≡ true → nat_le end high ≡ true
    ends_later low high end le e = grind (arith, nat_tests)
