-- The program of some words.
use Rattle.std.specs.Prelude.{ℕ, ◌*◌, max, List, [], ◌∷◌, length, true, take}
use Rattle.std.specs.List.{flat_map}
use Rattle.std.specs.Int.{w32, to_le_bytes}
use Rattle.table.specs.Program.{Segment}
use Rattle.loader.specs.Programs.{Program}

-- a text segment of these words at 4096, one word 0 if there are none
abbrev pub text_of : List ℕ → Segment
text_of words = record { addr = 4096; bytes = flat_map (to_le_bytes w32) words; size = 4 * max 1 (length words); exec = true }

-- the program that begins there: the words up to 4 MiB
abbrev pub sample_of : List ℕ → Program
sample_of words = record { entry = 4096; segments = text_of (take 1047552 words) ∷ [] }
