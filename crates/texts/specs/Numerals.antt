-- Numbers as text.
use Rattle.std.specs.Prelude.{ℕ, ◌/◌, ◌%◌, ◌^◌, List, [], ◌∷◌, map, codes, slice_index}

-- the digit of a number below 16
abbrev pub hex_digit : ℕ → ℕ
hex_digit d = slice_index (codes "0123456789abcdef") d

-- the eight hexadecimal digits of a word: its groups of four bits, from the highest
unfoldable pub hexadecimal : ℕ → List ℕ
hexadecimal n = map (λ low. hex_digit (n / 2 ^ low % 16)) (28 ∷ 24 ∷ 20 ∷ 16 ∷ 12 ∷ 8 ∷ 4 ∷ 0 ∷ [])
