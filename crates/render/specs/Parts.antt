-- What several lines have in common.
use Rattle.std.specs.Prelude.{ℕ, zero, suc, ◌*◌, ◌++◌, Bool, cond, List, [], ◌∷◌, Option, Some, None, codes, decimal}
use Rattle.std.specs.List.{concat}
use Rattle.words.specs.Limits.{most_harts, block_bytes}
use Rattle.words.specs.declared.message.LineState.{LineState}
use Rattle.words.specs.declared.message.LineState.TheVariants.{Shared, Exclusive, Modified}
use Rattle.words.specs.declared.stamp.Stamp.{Stamp}
use Rattle.texts.specs.Numerals.{hexadecimal}

-- a block, by the address of its first byte
abbrev pub block_text : ℕ → List ℕ
block_text b = codes "0x" ++ hexadecimal (block_bytes * b)

-- the state of a cache's line, by its letter
abbrev pub letter : LineState → List ℕ
letter Shared = codes "S"
letter Exclusive = codes "E"
letter Modified = codes "M"

-- a text that another is to follow: with a comma behind it, unless it is empty
abbrev pub with_comma : List ℕ → List ℕ
with_comma [] = []
with_comma (b ∷ bs) = (b ∷ bs) ++ codes ","

-- the numbers below n that a set names, rising, with commas between them
unfoldable pub listed : (ℕ → Bool) → ℕ → List ℕ
listed named zero = []
listed named (suc n) = cond (named n) (with_comma (listed named n) ++ decimal n) (listed named n)

-- a text, or a dash in the place of an empty one
abbrev pub or_dash : List ℕ → List ℕ
or_dash [] = codes "-"
or_dash (b ∷ bs) = b ∷ bs

-- a set of harts
abbrev pub harts_text : (ℕ → Bool) → List ℕ
harts_text named = or_dash (listed named most_harts)

-- when a transaction began: the stamps given before, and its hart; a dash outside transactions
abbrev pub stamp_text : Option Stamp → List ℕ
stamp_text None = codes "-"
stamp_text (Some s) = concat (decimal s.count ∷ codes "." ∷ decimal s.hart ∷ [])
