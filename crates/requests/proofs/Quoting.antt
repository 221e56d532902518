-- Lines of a source, by their numbers, and their bytes, one by one.
use Rattle.std.proofs.Common.{◌≡◌, ℕ, zero, suc, ◌+◌, ◌-◌, ◌<◌, ◌≤◌, ◌++◌, ◌∷◌, [], List, length, take, take_all, get_or, map, min, ap, refl, sym, ◌∙◌, arith, slice_get}
use Rattle.std.proofs.lemmas.List.{map_more, take_min, length-map, length-take}
use Rattle.assembler.specs.Passes.{lines}
use Rattle.requests.specs.Quotes.{line_numbered, shown_byte, quoted, without_return}

-- the line with a number has those before it in front
pub numbered : (number : ℕ) (source : List ℕ) → (number ≡ 0 → ⊥) → line_numbered number source ≡ slice_get (lines source) (number - 1)
numbered zero source some = absurd (some refl)
numbered (suc before) source some = let same : suc before - 1 ≡ before = omega arith in rw same refl

-- one byte more
pub shown-more : (front : List ℕ) (i d b : ℕ) (shown : List ℕ) → i < length front → shown ≡ map shown_byte (take i front) → b ≡ shown_byte (get_or front i d) → shown ++ b ∷ [] ≡ map shown_byte (take (i + 1) front)
shown-more front i d b shown inside before here = rw (before, here) (sym (map_more shown_byte front i d inside))

pub short-front : (text : List ℕ) (most : ℕ) → most ≡ min (length text) 255 → length (take most text) ≤ 255
short-front text most is = let count = length-take most text in omega (arith, count)

-- there is room for it
pub room : (front : List ℕ) (i : ℕ) (shown : List ℕ) → i < length front → length front ≤ 255 → shown ≡ map shown_byte (take i front) → length shown < 255
room front i shown inside short before =
    let count = ap length before ∙ length-map (take i front) shown_byte ∙ length-take i front in
    omega (arith, count)

-- and those are all
pub shown-all : (line text shown : List ℕ) (most i : ℕ) → text ≡ without_return line → most ≡ min (length text) 255 → length (take most text) ≤ i → shown ≡ map shown_byte (take i (take most text)) → shown ≡ quoted line
shown-all line text shown most i stripped is end all =
    let same : most ≡ min 255 (length text) = omega arith in
    let front : take most text ≡ take 255 text = ap (λ n. take n text) same ∙ take_min 255 text in
    all ∙ ap (map shown_byte) (take_all i (take most text) end ∙ front ∙ ap (take 255) stripped)
