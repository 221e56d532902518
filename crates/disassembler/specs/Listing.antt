-- The listing of a program.
use Rattle.std.specs.Prelude.{◌≡◌, ℕ, ◌+◌, ◌*◌, ◌<◌, List, [], ◌∷◌, length, slice_index_or, Option, Some, None, codes}
use Rattle.std.specs.Option.{option_or}
use Rattle.std.specs.List.{concat, flat_map, range_with_len}
use Rattle.texts.specs.Numerals.{hexadecimal}
use Rattle.table.specs.Program.{Segment, word_at}
use Rattle.disassembler.specs.Labels.{label}
use Rattle.disassembler.specs.Tables.{Table}
use Rattle.loader.specs.Programs.{Program}
use Rattle.disassembler.specs.Canonical.{canonical}

-- the line of a word at an address, by whose side its name stands, if it has one
abbrev pub line : Table → ℕ → ℕ → List ℕ
line names a w = concat (codes "0x" ∷ hexadecimal a ∷ label names a ∷ codes ": " ∷ hexadecimal w ∷ codes "  " ∷ canonical w ∷ codes "\n" ∷ [])

-- the line of the word that text has at an address, if it has one
abbrev pub line_if : Table → ℕ → Option ℕ → List ℕ
line_if names a None = []
line_if names a (Some w) = line names a w

abbrev pub line_at : Table → List Segment → ℕ → List ℕ
line_at names segments a = line_if names a (word_at segments a)

-- the words of text from a word of memory on are added to what is there, each where there is none yet
abbrev pub AddsWords : List Segment → ℕ → List (Option ℕ) → List (Option ℕ) → Type 0
AddsWords segments start before after = (length after ≡ length before)
    × ((i : ℕ) → i < length before → slice_index_or after i None ≡ option_or (slice_index_or before i None) (word_at segments (4 * (start + i))))

-- the lines of so many words of memory from one on
unfoldable pub lines_from : Table → List Segment → ℕ → ℕ → List ℕ
lines_from names segments start n = flat_map (λ i. line_at names segments (4 * (start + i))) (range_with_len 0 n)

-- the lines of the first n multiples of 4
unfoldable pub lines : Table → List Segment → ℕ → List ℕ
lines names segments n = flat_map (λ k. line_at names segments (4 * k)) (range_with_len 0 n)

-- a line for each word of text at a multiple of 4, by rising address: no segment ends beyond 4 MiB
abbrev pub listing_of : Table → Program → List ℕ
listing_of names p = lines names p.segments 1048576
