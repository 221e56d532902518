-- The bytes of what a line makes, the lowest of each number first.
use Rattle.std.specs.Prelude.{◌≡◌, ℕ, ◌^◌, ◌<◌, List, [], ◌++◌, take, replicate, Some}
use Rattle.std.specs.Int.{w32, to_le_bytes}
use Rattle.std.specs.List.{flat_map}
use Rattle.words.specs.declared.entry.Width.{Width}
use Rattle.words.specs.Bytes.{bytes_in}
use Rattle.table.specs.Table.{decoded}
use Rattle.table.specs.declared.instr.Instr.{Instr}
use Rattle.statements.specs.Statements.{Made}
use Rattle.statements.specs.Statements.Made.{Nothing, Enter, One, Two, Numbers, Zeros}

-- the word of an instruction is the one that the instruction table decodes to it
pub record IsWordOf (i : Instr) (bytes : List ℕ) : Type 0 where
  pub word : ℕ
  pub bound : word < 2 ^ 32
  pub decodes : decoded word ≡ Some i
  pub spelled : bytes ≡ to_le_bytes w32 word

-- the low bytes of numbers, as many as the width has
abbrev pub low_bytes : Width → List ℕ → List ℕ
low_bytes width values = flat_map (λ v. take (bytes_in width) (to_le_bytes w32 v)) values

-- the bytes of what a line makes
abbrev pub AreBytesOf : Made → List ℕ → Type 0
AreBytesOf Nothing bytes = bytes ≡ []
AreBytesOf (Enter section) bytes = bytes ≡ []
AreBytesOf (One i) bytes = IsWordOf i bytes
AreBytesOf (Two i j) bytes = (a : List ℕ) × (b : List ℕ) × IsWordOf i a × IsWordOf j b × (bytes ≡ a ++ b)
AreBytesOf (Numbers width values) bytes = bytes ≡ low_bytes width values
AreBytesOf (Zeros count) bytes = bytes ≡ replicate count 0
