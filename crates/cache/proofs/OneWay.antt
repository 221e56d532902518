-- What a change of one way leaves.
use Rattle.std.proofs.Common.{◌≡◌, ◌≢◌, ℕ, ◌<◌, ◌%◌, false, Option, Some, None, List, [], length, get_or, set, refl, arith, get_or-set_same, get_or-set_other, length-set, inl, inr}
use Rattle.std.proofs.lemmas.Bool.{cases_eq}
use Rattle.cache.specs.declared.line.Line.{Line}
use Rattle.cache.specs.Ways.{holds}
use Rattle.cache.specs.Sets.{Sets, at, ways_at, line_at, with_way}
use Rattle.cache.proofs.Found.{line_in-at, line_in-none, line_in-set_other, holds-own}

-- the way itself
pub at-with_way : (sets : Sets) (s w : ℕ) (x : Option Line) → s < length sets → w < length (get_or sets s []) → at (with_way sets s w x) s w ≡ x
at-with_way sets s w x hs hw =
    rw (get_or-set_same sets s (set (get_or sets s []) w x) [] hs) (get_or-set_same (get_or sets s []) w x None hw)

-- another way of the set
pub at-with_way_beside : (sets : Sets) (s w v : ℕ) (x : Option Line) → s < length sets → v ≢ w → at (with_way sets s w x) s v ≡ at sets s v
at-with_way_beside sets s w v x hs ne =
    rw (get_or-set_same sets s (set (get_or sets s []) w x) [] hs) (get_or-set_other (get_or sets s []) w v x None ne)

-- a way of another set
pub at-with_way_elsewhere : (sets : Sets) (s w t v : ℕ) (x : Option Line) → t ≢ s → at (with_way sets s w x) t v ≡ at sets t v
at-with_way_elsewhere sets s w t v x ne = rw (get_or-set_other sets s t (set (get_or sets s []) w x) [] ne) refl

-- how many ways a set has
pub length-with_way : (sets : Sets) (s w t : ℕ) (x : Option Line) → s < length sets → length (ways_at (with_way sets s w x) t) ≡ length (ways_at sets t)
length-with_way sets s w t x hs =
    elim (cases_eq t s) [
      | inl e ↦ rw (e, get_or-set_same sets s (set (get_or sets s []) w x) [] hs) (length-set (get_or sets s []) w x)
      | inr ne ↦ rw (get_or-set_other sets s t (set (get_or sets s []) w x) [] ne) refl
    ]

-- the block that no other way holds
pub line_at-with_way : (count : ℕ) (sets : Sets) (w : ℕ) (l : Line) → l.block % count < length sets → w < length (get_or sets (l.block % count) []) → ((v : ℕ) → v ≢ w → holds l.block (at sets (l.block % count) v) ≡ false) → line_at count (with_way sets (l.block % count) w (Some l)) l.block ≡ Some l
unfolding line_at
line_at-with_way count sets w l hs hw only =
    let s : ℕ = l.block % count in
    let ways : List (Option Line) = get_or sets s [] in
    rw (get_or-set_same sets s (set ways w (Some l)) [] hs) (line_in-at l.block (set ways w (Some l)) w l (rw (length-set ways w (Some l)) hw) (get_or-set_same ways w (Some l) None hw) (holds-own l)
    (λ v h. let ne : v ≢ w = omega arith in rw (get_or-set_other ways w v (Some l) None ne) (only v ne)))

-- the block whose way was emptied
pub line_at-with_way_none : (count : ℕ) (sets : Sets) (w b : ℕ) → b % count < length sets → w < length (get_or sets (b % count) []) → ((v : ℕ) → v ≢ w → holds b (at sets (b % count) v) ≡ false) → line_at count (with_way sets (b % count) w None) b ≡ None
unfolding line_at
line_at-with_way_none count sets w b hs hw only =
    let s : ℕ = b % count in
    let ways : List (Option Line) = get_or sets s [] in
    rw (get_or-set_same sets s (set ways w None) [] hs) (line_in-none b (set ways w None)
    (λ v h. elim (cases_eq v w) [
      | inl e ↦ rw (e, get_or-set_same ways w None None hw) refl
      | inr ne ↦ rw (get_or-set_other ways w v None None ne) (only v ne)
    ]))

-- a block that stood in the way neither before nor after
pub line_at-with_way_other : (count : ℕ) (sets : Sets) (s w a : ℕ) (x : Option Line) → s < length sets → holds a (at sets s w) ≡ false → holds a x ≡ false → line_at count (with_way sets s w x) a ≡ line_at count sets a
unfolding line_at
line_at-with_way_other count sets s w a x hs before after =
    elim (cases_eq (a % count) s) [
      | inl e ↦ rw (e, get_or-set_same sets s (set (get_or sets s []) w x) [] hs) (line_in-set_other a (get_or sets s []) w x before after)
      | inr ne ↦ rw (get_or-set_other sets s (a % count) (set (get_or sets s []) w x) [] ne) refl
    ]
