-- The segments of a program, and the words of its text.
use Rattle.std.specs.Prelude.{ℕ, ◌<◌, Bool, cond, ◌&&◌, nat_le, nat_lt, ◌+◌, ◌-◌, Option, Some, None, List, [], ◌∷◌, slice_index}
use Rattle.std.specs.List.{list_any}
use Rattle.words.specs.declared.entry.Width.TheVariants.{Word}
use Rattle.words.specs.Bytes.{number_at}

-- a stretch of memory that a program begins with: its first address, its first bytes (the others are 0), how many bytes it has,
-- and whether it is text
pub record Segment : Type 0 where
  pub addr : ℕ
  pub bytes : List ℕ
  pub size : ℕ
  pub exec : Bool

-- what segments begin with are bytes
abbrev pub AreBytes : List Segment → Type 0
AreBytes [] = Unit {0}
AreBytes (s ∷ ss) = ((k : ℕ) → slice_index s.bytes k < 256) × AreBytes ss

-- whether a number of bytes from an address on lie in a segment
abbrev pub holds : Segment → ℕ → ℕ → Bool
holds s a n = nat_le s.addr a && nat_le (a + n) (s.addr + s.size)

-- the byte of a segment at an address in it
abbrev pub byte_in : Segment → ℕ → ℕ
byte_in s a = slice_index s.bytes (a - s.addr)

-- the word of a segment at an address in it, little-endian
abbrev pub word_in : Segment → ℕ → ℕ
word_in s a = number_at (byte_in s) a Word

-- the word at an address, if its 4 bytes lie in one text segment: the first that has them
abbrev pub word_at : List Segment → ℕ → Option ℕ
word_at [] a = None
word_at (s ∷ ss) a = cond (s.exec && holds s a 4) (Some (word_in s a)) (word_at ss a)

-- whether one of a number of bytes from an address on lies in a text segment
abbrev pub touches_text : List Segment → ℕ → ℕ → Bool
touches_text ss a n = list_any (λ s. s.exec && (nat_lt s.addr (a + n) && nat_lt a (s.addr + s.size))) ss

-- what memory has at an address when the program begins: the byte of the first segment that has one there, else 0
abbrev pub image_at : List Segment → ℕ → ℕ
image_at [] a = 0
image_at (s ∷ ss) a = cond (holds s a 1) (byte_in s a) (image_at ss a)
