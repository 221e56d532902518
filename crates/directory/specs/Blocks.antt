-- The directory as a value, and as maps from blocks to entries and words.
use Rattle.std.specs.Prelude.{ℕ, ◌≡◌, ◌≢◌, ◌<◌, ◌≤◌, ◌↔◌, ⊤, List, [], Option, Some, None, IsSome, IsSomeAnd, length, map}
use Rattle.std.specs.Option.{option_map_or}
use Rattle.std.specs.List.{slice_index_or}
use Rattle.std.specs.List.Sorted.{IsStrictlySortedBy}
use Rattle.std.specs.Map.{lookup, keys_of}
use Rattle.std.specs.Ordering.{nat_cmp}
use Rattle.std.specs.BTreeMap.{is_at}
use Rattle.words.specs.Limits.{most_harts}
use Rattle.protocol.specs.Messages.{Block, Message, block_of, Get, Put, Done}
use Rattle.protocol.specs.Directory.{DirEntry, first_entry, Served, directory_row}
use Rattle.directory.specs.declared.entry.DirEntry.{DirEntry as CodedEntry}
use Rattle.directory.specs.declared.received.Received.{Received}
use Rattle.directory.specs.declared.received.Received.TheVariants.{Held, Sent}
use Rattle.directory.specs.declared.received.Answer.{Answer}
use Rattle.directory.specs.declared.received.Answer.TheVariants.{Granted}
use Rattle.directory.specs.declared.received.Given.{Given}
use Rattle.directory.specs.declared.rules.Request.{Request}
use Rattle.directory.specs.Sends.{messages_of, messages_in}
use Rattle.directory.specs.Entries.{shown_entry, NamesBelow}

-- how many harts there are; the entries that are kept, by rising number of their blocks; the words of each block
pub record Blocks : Type 0 where
  pub harts : ℕ
  pub kept : List (ℕ × CodedEntry)
  pub memory : List Block

-- the entry that is kept for a block, if one is
abbrev pub kept_at : Blocks → ℕ → Option CodedEntry
kept_at d b = lookup (is_at (nat_cmp b)) d.kept

-- a block with none has the first one
abbrev pub entry_at : Blocks → ℕ → DirEntry
entry_at d b = option_map_or shown_entry (kept_at d b) first_entry

abbrev pub memory_at : Blocks → ℕ → Block
memory_at d b = slice_index_or d.memory b []

-- an entry may be kept for block b, in a machine of so many harts and blocks: it isn't the first one, and names no other hart
pub record IsKept (harts blocks b : ℕ) (e : CodedEntry) : Type 0 where
  pub inside : b < blocks
  pub used : shown_entry e ≢ first_entry
  pub named : NamesBelow harts (shown_entry e)

pub record IsSound (d : Blocks) : Type 0 where
  pub some : 0 < d.harts
  pub few : d.harts ≤ most_harts
  pub blocks : length d.memory ≤ 131072
  pub kept : (b : ℕ) (e : CodedEntry) → kept_at d b ≡ Some e → IsKept d.harts (length d.memory) b e

-- a block has this entry and these words now, and each other block what it had
pub record SetsBlock (old new : Blocks) (b : ℕ) (e : DirEntry) (words : Block) : Type 0 where
  pub entry : entry_at new b ≡ e
  pub memory : memory_at new b ≡ words
  pub entries : (other : ℕ) → other ≢ b → entry_at new other ≡ entry_at old other
  pub memories : (other : ℕ) → other ≢ b → memory_at new other ≡ memory_at old other
  pub harts : new.harts ≡ old.harts
  pub size : length new.memory ≡ length old.memory

-- the entries stand by rising number of their blocks, so that no block has two
abbrev pub IsInOrder : Blocks → Type 0
IsInOrder d = IsStrictlySortedBy nat_cmp (keys_of d.kept)

-- the entries that are kept are just those in use, each that of its block, by rising number of their blocks
pub record KeepsUsed (d : Blocks) : Type 0 where
  pub order : IsInOrder d
  pub exact : (b : ℕ) → IsSome (kept_at d b) ↔ (entry_at d b ≢ first_entry)

-- the same entries, as the rows of the protocol speak of them
abbrev pub shown_kept : Blocks → List (ℕ × DirEntry)
shown_kept d = map (λ e. (e.0, shown_entry e.1)) d.kept

-- what the protocol's row makes of a message here
abbrev pub row_of : Blocks → Message → Option Served
row_of d m = directory_row d.harts m (entry_at d (block_of m)) (memory_at d (block_of m))

-- the hart that a message to the directory comes from
abbrev pub sender_of : Message → Option ℕ
sender_of (Get from block kind stamp) = Some from
sender_of (Put from block content marked) = Some from
sender_of (Done from block ok content) = Some from
sender_of _ = None

abbrev pub IsGet : Message → Type 0
IsGet (Get from block kind stamp) = ⊤
IsGet _ = ⊥

-- what was done with a message about block b is what its row says: it is held, and nothing changes, where there is no row; and else the
-- row's messages are sent, in order, and the block has the row's entry and words
abbrev pub Follows : Received → Option Served → ℕ → Blocks → Blocks → Type 0
Follows Held row b old new = (row ≡ None) × (new ≡ old)
Follows (Sent sends) row b old new = IsSomeAnd row (λ served. (messages_of sends ≡ served.sent) × SetsBlock old new b served.entry served.memory)

-- the same, of what it is answered with, where it isn't held
abbrev pub Answers : Option Answer → Option Served → ℕ → Blocks → Blocks → Type 0
Answers None row b old new = (row ≡ None) × (new ≡ old)
Answers (Some answer) row b old new = IsSomeAnd row (λ served. (messages_in old.harts answer ≡ served.sent) × SetsBlock old new b served.entry served.memory)

-- what a request is answered with, by what it is given
abbrev pub answer_to : Blocks → Request → Given → Answer
answer_to d q g = Granted q.requester g.give g.expect (memory_at d q.block) q.block q.kind q.stamp
