-- The bytes of words and blocks, lowest first.
use Rattle.std.specs.Prelude.{ℕ, ◌≡◌, ◌<◌, ◌≤◌, ◌+◌, ◌*◌, ◌/◌, ◌%◌, ◌^◌, List, slice_index, slice_set}
use Rattle.words.specs.declared.entry.Width.{Width}
use Rattle.words.specs.Bytes.{bytes_in, byte_of}
use Rattle.words.specs.Limits.{block_words}

-- a word with n of its bytes, from byte p on, replaced by the low bytes of a value
abbrev pub word_with : ℕ → ℕ → ℕ → ℕ → ℕ
word_with word p n v = word % 256 ^ p + v % 256 ^ n * 256 ^ p + word / 256 ^ (p + n) * 256 ^ (p + n)

-- the word of a block at an address
abbrev pub word_at : List ℕ → ℕ → ℕ
word_at content addr = slice_index content (addr / 4 % block_words)

-- byte i of a block
abbrev pub byte_at : List ℕ → ℕ → ℕ
byte_at content i = byte_of (slice_index content (i / 4)) (i % 4)

-- a block with the low bytes of a value at an address
abbrev pub block_with : List ℕ → ℕ → Width → ℕ → List ℕ
block_with content addr width v = slice_set content (addr / 4 % block_words) (word_with (word_at content addr) (addr % 4) (bytes_in width) v)

-- the n bytes from byte p on are the low bytes of the value, and every other byte is as it was
pub record PutsBytes (old new : List ℕ) (p n v : ℕ) : Type 0 where
  pub put : (k : ℕ) → k < n → byte_at new (p + k) ≡ byte_of v k
  pub below : (i : ℕ) → i < p → byte_at new i ≡ byte_at old i
  pub above : (i : ℕ) → p + n ≤ i → byte_at new i ≡ byte_at old i
