-- A cache after its marks were cleared.
use Rattle.std.proofs.Common.{◌≡◌, ℕ, ◌%◌, false, Option, Some, None, List, [], ◌∷◌, length, get_or, map, refl, sym, ◌∙◌, ap, arith, inl, inr}
use Rattle.std.specs.List.{position_or_len}
use Rattle.std.specs.Option.{option_map}
use Rattle.std.proofs.lemmas.Bool.{cases_lt, lt-ltb, le-ltb}
use Rattle.std.proofs.lemmas.Bool.Decides.{nat_tests}
use Rattle.std.proofs.lemmas.List.{get_or_past, get_or-map, length-map}
use Rattle.cache.specs.declared.line.Line.{Line}
use Rattle.cache.specs.Line.{without_marks}
use Rattle.cache.specs.Ways.{holds, line_in}
use Rattle.cache.specs.Sets.{Sets, at, line_at, CanStand, IsSound}

-- the sets with all marks taken away
abbrev pub unmarked : Sets → Sets
unmarked sets = map (map (option_map without_marks)) sets

-- a function that leaves a default as it is may be read before or after
get_or-map_default : {X : Type 0} (f : X → X) (xs : List X) (i : ℕ) (d : X) → f d ≡ d → get_or (map f xs) i d ≡ f (get_or xs i d)
get_or-map_default f xs i d same =
    elim (cases_lt i (length xs)) [
      | inl h ↦ get_or-map f xs i d d h
      | inr h ↦ rw (get_or_past (map f xs) i d (let e : length (map f xs) ≡ length xs = simp length-map in omega arith), get_or_past xs i d h) (sym same)
    ]

-- a set's ways
ways-unmarked : (sets : Sets) (s : ℕ) → get_or (unmarked sets) s [] ≡ map (option_map without_marks) (get_or sets s [])
ways-unmarked sets s = get_or-map_default (map (option_map without_marks)) sets s [] refl

-- a way
at-unmarked : (sets : Sets) (s w : ℕ) → at (unmarked sets) s w ≡ option_map without_marks (at sets s w)
at-unmarked sets s w = rw (ways-unmarked sets s) (get_or-map_default (option_map without_marks) (get_or sets s []) w None refl)

-- marks don't tell blocks apart
holds-unmarked : (b : ℕ) (way : Option Line) → holds b (option_map without_marks way) ≡ holds b way
holds-unmarked b None = refl
holds-unmarked b (Some l) = refl

position-unmarked : (b : ℕ) (ways : List (Option Line)) → position_or_len (holds b) (map (option_map without_marks) ways) ≡ position_or_len (holds b) ways
position-unmarked b [] = refl
position-unmarked b (way ∷ ways) = rw (holds-unmarked b way, position-unmarked b ways) refl

-- the line that is found
pub line_in-unmarked : (b : ℕ) (ways : List (Option Line)) → line_in b (map (option_map without_marks) ways) ≡ option_map without_marks (line_in b ways)
line_in-unmarked b ways =
    let q : ℕ = position_or_len (holds b) ways in
    rw (position-unmarked b ways, length-map) (elim (cases_lt q (length ways)) [
      | inl h ↦ rw (lt-ltb q (length ways) h) (get_or-map_default (option_map without_marks) ways q None refl)
      | inr h ↦ rw (le-ltb q (length ways) h) refl
    ])

pub line_at-unmarked : (count : ℕ) (sets : Sets) (b : ℕ) → line_at count (unmarked sets) b ≡ option_map without_marks (line_at count sets b)
unfolding line_at
line_at-unmarked count sets b = rw (ways-unmarked sets (b % count)) (line_in-unmarked b (get_or sets (b % count) []))

-- the line from which one without marks comes
was-marked : (way : Option Line) (l : Line) → option_map without_marks way ≡ Some l → (m : Line) × (way ≡ Some m) × (without_marks m ≡ l)
was-marked None l is = absurd (cc)
was-marked (Some m) l is = (m, refl, cc)

pub unmarked_is_sound : (count size : ℕ) (sets : Sets) → IsSound count size sets → IsSound count size (unmarked sets)
unmarked_is_sound count size sets sound = record {
  some_set = sound.some_set;
  some_way = sound.some_way;
  fits = sound.fits;
  full = λ s h. rw (ways-unmarked sets s, length-map) (sound.full s h);
  lines = λ s w l here.
      let old : (m : Line) × (at sets s w ≡ Some m) × (without_marks m ≡ l) = was-marked (at sets s w) l (sym (at-unmarked sets s w) ∙ here) in
      let k : CanStand count sets s w old.0 = sound.lines s w old.0 old.1 in
      let block : old.0.block ≡ l.block = ap (λ (n : Line). n.block) old.2 in
      let clean : false ≡ l.marks.written = ap (λ (n : Line). n.marks.written) old.2 in
      record {
        placed = rw (← block) k.placed;
        alone = λ v m ne there same.
            let beside : (n : Line) × (at sets s v ≡ Some n) × (without_marks n ≡ m) = was-marked (at sets s v) m (sym (at-unmarked sets s v) ∙ there) in
            k.alone v beside.0 ne beside.1 (ap (λ (n : Line). n.block) beside.2 ∙ same ∙ sym block);
        owned = λ t. absurd (grind (arith, nat_tests));
      };
}
