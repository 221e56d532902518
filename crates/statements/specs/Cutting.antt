-- How a line of source is cut into its parts. A text is a list of bytes.
use Rattle.std.specs.Prelude.{ℕ, ◌==◌, ◌&&◌, ◌||◌, cond, Bool, true, false, nat_le, List, [], ◌∷◌, Option, Some, None}

-- a space or a tab
abbrev pub is_blank : ℕ → Bool
is_blank c = (c == 32) || (c == 9)

-- a text without the blanks in front
abbrev pub trim_start : List ℕ → List ℕ
trim_start [] = []
trim_start (c ∷ cs) = cond (is_blank c) (trim_start cs) (c ∷ cs)

abbrev pub is_empty : List ℕ → Bool
is_empty [] = true
is_empty (c ∷ cs) = false

-- a text without the blanks at its end
abbrev pub trim_end : List ℕ → List ℕ
trim_end [] = []
trim_end (c ∷ cs) = cond (is_blank c && is_empty (trim_end cs)) [] (c ∷ trim_end cs)

abbrev pub trim : List ℕ → List ℕ
trim text = trim_end (trim_start text)

-- a text cut in two: what stands before a byte, and what behind it, if it is there
pub record Cut : Type 0 where
  pub front : List ℕ
  pub rest : Option (List ℕ)

abbrev pub with_front : ℕ → Cut → Cut
with_front c later = record { front = c ∷ later.front; rest = later.rest }

-- the cut at the first byte that passes a test
abbrev pub cut : (ℕ → Bool) → List ℕ → Cut
cut p [] = record { front = []; rest = None }
cut p (c ∷ cs) = cond (p c) (record { front = []; rest = Some cs }) (with_front c (cut p cs))

abbrev pub or_empty : Option (List ℕ) → List ℕ
or_empty None = []
or_empty (Some text) = text

-- the first word of a text, and what stands behind it
unfoldable pub cut_word : List ℕ → List ℕ × List ℕ
cut_word text = ((cut is_blank text).front, trim_start (or_empty (cut is_blank text).rest))

-- Names: a letter or `_`, and then letters, digits and `_`

abbrev pub is_within : ℕ → ℕ → ℕ → Bool
is_within low high c = nat_le low c && nat_le c high

abbrev pub is_name_start : ℕ → Bool
is_name_start c = (is_within 97 122 c || is_within 65 90 c) || (c == 95)

abbrev pub is_name_byte : ℕ → Bool
is_name_byte c = is_name_start c || is_within 48 57 c

abbrev pub are_name_bytes : List ℕ → Bool
are_name_bytes [] = true
are_name_bytes (c ∷ cs) = is_name_byte c && are_name_bytes cs

abbrev pub is_name : List ℕ → Bool
is_name [] = false
is_name (c ∷ cs) = is_name_start c && are_name_bytes cs

-- Lines: `[NAME:] [statement] [# comment]`, with blanks between

-- a line's label and statement, which may be empty
pub record Parts : Type 0 where
  pub label : Option (List ℕ)
  pub statement : List ℕ

abbrev pub parts_at : List ℕ → Cut → Parts
parts_at text found =
    elim found.rest [
      | None ↦ record { label = None; statement = trim text }
      | Some rest ↦ cond (is_name found.front) (record { label = Some found.front; statement = trim rest }) (record { label = None; statement = trim text })
    ]

unfoldable pub parts_of : List ℕ → Parts
parts_of line =
    let text = trim_start (cut (λ c. c == 35) line).front in
    parts_at text (cut (λ c. c == 58) text)
