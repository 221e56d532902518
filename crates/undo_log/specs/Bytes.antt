-- A record as bytes.
use Rattle.std.specs.Prelude.{ℕ, ◌+◌, ◌*◌, ◌/◌, List, ◌∷◌, ◌++◌, length, map, take, drop}
use Rattle.std.specs.List.{range_with_len, flat_map}
use Rattle.std.specs.Int.{w32, to_le_bytes, from_le_bytes}
use Rattle.words.specs.Limits.{block_bytes, block_words}
use Rattle.undo_log.specs.declared.record.Record.{Record}

-- the bytes of a record: its block's address and the block's eight words, the lowest byte of each first
abbrev pub record_bytes : Record → List ℕ
record_bytes r = flat_map (to_le_bytes w32) (block_bytes * r.block ∷ r.before)

-- the word whose four bytes begin at place i
abbrev pub word_at : List ℕ → ℕ → ℕ
word_at bytes i = from_le_bytes w32 (take 4 (drop i bytes))

-- the record whose bytes begin at place i
abbrev pub record_at : List ℕ → ℕ → Record
record_at bytes i = record { block = word_at bytes i / block_bytes; before = map (λ k. word_at bytes (i + 4 + 4 * k)) (range_with_len 0 block_words) }

-- the bytes with others in place of those from place i on
abbrev pub overwritten : List ℕ → ℕ → List ℕ → List ℕ
overwritten bytes i others = take i bytes ++ others ++ drop (i + length others) bytes
