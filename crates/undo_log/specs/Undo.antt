-- What undoing a list of records does to memory.
use Rattle.std.specs.Prelude.{ℕ, Bool, cond, ◌==◌, List, Option, is_some, find, fold, reverse}
use Rattle.std.specs.Option.{option_map_or}
use Rattle.undo_log.specs.declared.record.Record.{Record}

-- the oldest record of a block
abbrev pub oldest : List Record → ℕ → Option Record
oldest records b = find (λ r. r.block == b) records

-- whether a record is of this block
abbrev pub holds : List Record → ℕ → Bool
holds records b = is_some (oldest records b)

-- the image in the oldest record of a block, or what the block holds now
abbrev pub restored : List Record → ℕ → List ℕ → List ℕ
restored records b now = option_map_or (λ r. r.before) (oldest records b) now

-- memory, as a map from block to words, with a record's image in its block
abbrev pub with_image : (ℕ → List ℕ) → Record → ℕ → List ℕ
with_image memory r b = cond (r.block == b) r.before (memory b)

-- memory once the records are undone, the newest first
abbrev pub undone : List Record → (ℕ → List ℕ) → ℕ → List ℕ
undone records memory = fold with_image memory (reverse records)
