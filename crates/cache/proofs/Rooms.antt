-- Room in a set, while lines of it change.
use Rattle.std.proofs.Common.{◌≡◌, ◌≢◌, ℕ, ◌%◌, Bool, false, true, IsSome, Option, Some, None, List, [], length, get_or, set, refl, ap, ◌∙◌, position, get_or-set_same, get_or-set_other, length-set, inl, inr}
use Rattle.std.proofs.lemmas.Bool.{cases_eq}
use Rattle.cache.specs.declared.line.Line.{Line}
use Rattle.cache.specs.Ways.{holds, is_free}
use Rattle.cache.specs.Sets.{Sets, IsSound, HasRoom, with_way}
use Rattle.cache.proofs.Found.{IsFirst, is_first, some-position}
use Rattle.cache.proofs.Changes.{Stands, stands}

-- the way that is found, where one is
pub found_way : (test : Option Line → Bool) (ways : List (Option Line)) → IsSome (position test ways) → (w : ℕ) × IsFirst test ways w
found_way test ways some = by_place (position test ways) refl some
  where
    by_place : (o : Option ℕ) → position test ways ≡ o → IsSome o → (w : ℕ) × IsFirst test ways w
    by_place None e some = cc
    by_place (Some w) e some = (w, is_first test ways w e)

-- a line that is replaced or taken out takes no room
pub room-kept : (count size : ℕ) (sets : Sets) (w a b : ℕ) (x : Option Line) → IsSound count size sets → length sets ≡ count → position (holds b) (get_or sets (b % count) []) ≡ Some w → HasRoom count sets a → HasRoom count (with_way sets (b % count) w x) a
unfolding HasRoom
room-kept count size sets w a b x sound len found room =
    let s : ℕ = b % count in
    let ways : List (Option Line) = get_or sets s [] in
    let old : Stands count sets b w = stands count size sets b w sound len found in
    elim (cases_eq (a % count) s) [
      | inl same ↦
          let free : (v : ℕ) × IsFirst is_free ways v = found_way is_free ways (rw same at room) in
          let apart : free.0 ≢ w = λ (e : free.0 ≡ w). let taken : is_free (get_or ways w None) ≡ false = ap is_free old.here in let t : is_free (get_or ways w None) ≡ true = rw e at free.1.passes in cc in
          let still : is_free (get_or (set ways w x) free.0 None) ≡ true = ap is_free (get_or-set_other ways w free.0 x None apart) ∙ free.1.passes in
          rw (same, get_or-set_same sets s (set ways w x) [] old.within) (some-position is_free (set ways w x) free.0 (rw (length-set ways w x) free.1.inside) still)
      | inr ne ↦ rw (get_or-set_other sets s (a % count) (set ways w x) [] ne) room
    ]
