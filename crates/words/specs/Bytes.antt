-- The bytes of numbers, lowest first.
use Rattle.std.specs.Prelude.{ℕ, ◌+◌, ◌*◌, ◌/◌, ◌%◌, ◌^◌}
use Rattle.words.specs.declared.entry.Width.{Width}
use Rattle.words.specs.declared.entry.Width.TheVariants.{Byte, Half, Word}

-- how many bytes a width has
abbrev pub bytes_in : Width → ℕ
bytes_in Byte = 1
bytes_in Half = 2
bytes_in Word = 4

-- byte k of a number, counted from the lowest
abbrev pub byte_of : ℕ → ℕ → ℕ
byte_of v k = v / 256 ^ k % 256

-- the number that stands at an address, little-endian
abbrev pub number_at : (ℕ → ℕ) → ℕ → Width → ℕ
number_at m a Byte = m a
number_at m a Half = m a + 256 * m (a + 1)
number_at m a Word = m a + 256 * m (a + 1) + 65536 * m (a + 2) + 16777216 * m (a + 3)

-- the part of a number that has a width
abbrev pub cut : Width → ℕ → ℕ
cut width v = v % 256 ^ bytes_in width
