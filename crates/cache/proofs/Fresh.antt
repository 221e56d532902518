-- A cache of free ways.
use Rattle.std.proofs.Common.{◌≡◌, ℕ, ◌<◌, ◌≤◌, ◌*◌, ◌%◌, ◌^◌, true, Option, None, List, [], length, get_or, replicate, refl, sym, ◌∙◌, arith, inl, inr}
use Rattle.std.proofs.lemmas.Bool.{cases_lt}
use Rattle.std.proofs.lemmas.List.{get_or_past, get_or-replicate, length-replicate, same_lists}
use Rattle.cache.specs.declared.line.Line.{Line}
use Rattle.cache.specs.Ways.{is_free}
use Rattle.cache.specs.Sets.{Sets, at, line_at, HasRoom, IsSound}
use Rattle.cache.proofs.Found.{line_in-none, some-position}

-- so many free ways, and so many sets of them
abbrev pub free_ways : ℕ → List (Option Line)
free_ways size = replicate size None

abbrev pub fresh : ℕ → ℕ → Sets
fresh count size = replicate count (free_ways size)

length-free_ways : (size : ℕ) → length (free_ways size) ≡ size
length-free_ways size = length-replicate size None

length-fresh : (count size : ℕ) → length (fresh count size) ≡ count
length-fresh count size = length-replicate count (free_ways size)

ways-fresh : (count size s : ℕ) (d : List (Option Line)) → s < count → get_or (fresh count size) s d ≡ free_ways size
ways-fresh count size s d h = get_or-replicate count s (free_ways size) d h

-- what was made set by set
pub made_fresh : (count size : ℕ) (sets : Sets) → length sets ≡ count → ((s : ℕ) (d : List (Option Line)) → s < count → get_or sets s d ≡ free_ways size) → sets ≡ fresh count size
made_fresh count size sets len each =
    same_lists sets (fresh count size) (len ∙ sym (length-fresh count size)) (λ s d h.
    let within : s < count = omega arith in
    each s d within ∙ sym (ways-fresh count size s d within))

-- no way has a line
pub get_or-free_ways : (size w : ℕ) → get_or (free_ways size) w None ≡ None
get_or-free_ways size w =
    elim (cases_lt w size) [
      | inl h ↦ get_or-replicate size w None None h
      | inr h ↦ let past : length (free_ways size) ≤ w = rw (length-free_ways size) h in get_or_past (free_ways size) w None past
    ]

at-fresh : (count size s w : ℕ) → at (fresh count size) s w ≡ None
at-fresh count size s w =
    elim (cases_lt s count) [
      | inl h ↦ rw (ways-fresh count size s [] h) (get_or-free_ways size w)
      | inr h ↦ let past : length (fresh count size) ≤ s = rw (length-fresh count size) h in rw (get_or_past (fresh count size) s [] past) refl
    ]

pub fresh_is_sound : (count size : ℕ) → 0 < count → 0 < size → count * size < 2 ^ 32 → IsSound count size (fresh count size)
fresh_is_sound count size some_set some_way fits = record {
  some_set = some_set;
  some_way = some_way;
  fits = fits;
  full = λ s h. rw (ways-fresh count size s [] h) (length-free_ways size);
  lines = λ s w l here. absurd (let none : at (fresh count size) s w ≡ None = at-fresh count size s w in cc);
}

-- no block has a line
pub line_at-fresh : (count size b : ℕ) → line_at count (fresh count size) b ≡ None
unfolding line_at
line_at-fresh count size b =
    line_in-none b (get_or (fresh count size) (b % count) []) (λ v h. let none : at (fresh count size) (b % count) v ≡ None = at-fresh count size (b % count) v in rw none refl)

-- each block has room
pub room-fresh : (count size b : ℕ) → 0 < count → 0 < size → HasRoom count (fresh count size) b
unfolding HasRoom
room-fresh count size b some_set some_way =
    let within : b % count < count = omega arith in
    let long : 0 < length (free_ways size) = rw (length-free_ways size) some_way in
    let free : is_free (get_or (free_ways size) 0 None) ≡ true = rw (get_or-free_ways size 0) refl in
    rw (ways-fresh count size (b % count) [] within) (some-position is_free (free_ways size) 0 long free)
