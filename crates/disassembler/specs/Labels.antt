-- A name as it is shown.
use Rattle.std.specs.Prelude.{ℕ, zero, suc, ◌==◌, ◌&&◌, nat_le, cond, List, [], ◌∷◌, ◌++◌, map, take, codes, Option, Some, None}
use Rattle.std.specs.List.{concat}
use Rattle.texts.specs.Numerals.{hexadecimal}
use Rattle.disassembler.specs.Tables.{Table}
use Rattle.disassembler.specs.Names.{name_at}

-- a visible character of ASCII is shown as it is, any other byte as a question mark
abbrev pub shown_byte : ℕ → ℕ
shown_byte c = cond (nat_le 33 c && nat_le c 126) c 63

-- of a name the first 64 bytes are shown
abbrev pub shown_name : List ℕ → List ℕ
shown_name name = map shown_byte (take 64 name)

-- digits from the first that isn't 0
abbrev pub without_zeros : List ℕ → List ℕ
without_zeros [] = []
without_zeros (d ∷ ds) = cond (d == 48) (without_zeros ds) (d ∷ ds)

-- a number's digits in base 16
unfoldable pub digits : ℕ → List ℕ
digits n = without_zeros (hexadecimal n)

-- how far behind its first byte, if it is
abbrev pub offset_part : ℕ → List ℕ
offset_part zero = []
offset_part (suc n) = codes "+0x" ++ digits (suc n)

-- what stands behind an address: nothing where it has no name
abbrev pub label_of : Option (List ℕ × ℕ) → List ℕ
label_of None = []
label_of (Some (name, offset)) = concat (codes " <" ∷ shown_name name ∷ offset_part offset ∷ codes ">" ∷ [])

unfoldable pub label : Table → ℕ → List ℕ
label table a = label_of (name_at table a)
