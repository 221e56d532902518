-- The flat machine: one memory, and for each hart what its running transaction did, kept apart from memory until it commits.
use Rattle.std.specs.Prelude.{ℕ, ◌≡◌, ◌≢◌, ◌<◌, ◌/◌, Bool, false, Option, Some, None, List, []}
use Rattle.std.specs.Option.{unwrap_or}
use Rattle.words.specs.declared.cause.Status.{Status}
use Rattle.words.specs.declared.cause.Status.TheVariants.{Running}
use Rattle.table.specs.Program.{Segment}
use Rattle.table.specs.declared.effect.Store.{Store}
use Rattle.table.specs.declared.effect.Act.{Act}
use Rattle.table.specs.declared.effect.Act.TheVariants as act

-- what never changes: the program's segments, how many bytes memory has, how many harts there are
pub record Setting : Type 0 where
  pub segments : List Segment
  pub size : ℕ
  pub count : ℕ

-- a running transaction: the registers to go back to and the pc to go on at after an abort; how deep it is nested; how many stores
-- were retired in it, counted up to the records of a log; the bytes that it wrote, by address; the blocks that it read, and those that it wrote
pub record Tx : Type 0 where
  pub checkpoint : List ℕ
  pub abort_pc : ℕ
  pub depth : ℕ
  pub stores : ℕ
  pub writes : ℕ → Option ℕ
  pub read_set : ℕ → Bool
  pub write_set : ℕ → Bool

-- a hart: its output is the bytes that it put out, in order
pub record FlatHart : Type 0 where
  pub regs : List ℕ
  pub pc : ℕ
  pub output : List ℕ
  pub status : Status
  pub tx : Option Tx

pub record Flat : Type 0 where
  pub setting : Setting
  pub mem : ℕ → ℕ
  pub hart : ℕ → FlatHart

-- what stands under a number that is no hart's
abbrev pub idle : FlatHart
idle = record { regs = []; pc = 0; output = []; status = Running; tx = None }

-- memory as a transaction sees it: what it wrote itself, else what stands in memory
abbrev pub seen : Option Tx → (ℕ → ℕ) → ℕ → ℕ
seen None mem a = mem a
seen (Some t) mem a = unwrap_or (t.writes a) (mem a)

-- memory as hart i sees it
abbrev pub flat_view : Flat → ℕ → ℕ → ℕ
flat_view f i a = seen (f.hart i).tx f.mem a

-- whether a transaction has read the block
abbrev pub has_read : Option Tx → ℕ → Bool
has_read None b = false
has_read (Some t) b = t.read_set b

-- whether a transaction has written the block
abbrev pub has_written : Option Tx → ℕ → Bool
has_written None b = false
has_written (Some t) b = t.write_set b

-- no other hart's transaction has written the block
abbrev pub MayLoad : Flat → ℕ → ℕ → Type 0
MayLoad f i b = (j : ℕ) → j < f.setting.count → j ≢ i → has_written (f.hart j).tx b ≡ false

-- no other hart's transaction has read or written the block
abbrev pub MayStore : Flat → ℕ → ℕ → Type 0
MayStore f i b = (j : ℕ) → j < f.setting.count → j ≢ i → (has_read (f.hart j).tx b ≡ false) × (has_written (f.hart j).tx b ≡ false)

-- what also stores has to be allowed as a store
abbrev pub MayAccess : Flat → ℕ → ℕ → Option Store → Type 0
MayAccess f i b None = MayLoad f i b
MayAccess f i b (Some s) = MayStore f i b

-- hart i's act is kept out by no other hart's transaction
abbrev pub IsAllowed : Flat → ℕ → Act → Type 0
IsAllowed f i (act.Memory m) = MayAccess f i (m.addr / 32) m.store
IsAllowed f i _ = Unit {0}
