-- The whole machine, and its steps: a core step, an eviction, or the arrival of a message, in any order. A step that isn't
-- enabled changes nothing and gives no entry. LogTM (HPCA 2006) describes hardware in parts; that one event is one step is this
-- project's.
use Rattle.std.specs.Prelude.{ℕ, ◌≡◌, ◌+◌, min, Bool, cond, nat_lt, Option, Some, None, List, [], ◌∷◌, ◌++◌, option_to_list}
use Rattle.words.specs.declared.entry.Entry.{Entry}
use Rattle.words.specs.declared.entry.Step.{Step}
use Rattle.words.specs.declared.entry.Step.TheVariants.{Core, Evict, Deliver}
use Rattle.flat.specs.Bytes.{put_at}
use Rattle.flat.specs.State.{Setting}
use Rattle.protocol.specs.Messages.{Block, Message, block_of, receiver_of}
use Rattle.protocol.specs.Hart.{Hart, HartResult}
use Rattle.protocol.specs.Caches.{Geometry, MayName}
use Rattle.protocol.specs.Core.{Move, Rests, Makes, Lacks, core_move, core_row}
use Rattle.protocol.specs.Evict.{evict_row}
use Rattle.protocol.specs.HartMessages.{message_row}
use Rattle.protocol.specs.Directory.{DirEntry, Served, directory_row}
use Rattle.protocol.specs.Network.{Network, taken, Sends}

-- harts by number; the directory's entries and memory's words by block; the messages by key; and how many new stamps were taken
pub record Machine : Type 0 where
  pub setting : Setting
  pub harts : ℕ → Hart
  pub entries : ℕ → DirEntry
  pub memory : ℕ → Block
  pub net : Network
  pub stamps : ℕ

-- what a step leaves, before the messages that it sends are in flight; and its entry
pub record Change : Type 0 where
  pub machine : Machine
  pub sent : List Message
  pub entry : Option Entry

abbrev pub no_change : Machine → Change
no_change w = record { machine = w; sent = []; entry = None }

-- the count of new stamps stays at its greatest value, once there
abbrev pub stamps_after : Bool → ℕ → ℕ
stamps_after stamped n = cond stamped (min (n + 1) 18446744073709551615) n

-- what hart i's row makes of the machine
abbrev pub hart_change : ℕ → HartResult → Machine → Change
hart_change i t w = record {
  machine = record w { harts = put_at i t.hart w.harts; stamps = stamps_after t.stamped w.stamps };
  sent = option_to_list t.sent;
  entry = t.entry;
}

abbrev pub hart_change_if : ℕ → Option HartResult → Machine → Change
hart_change_if i None w = no_change w
hart_change_if i (Some t) w = hart_change i t w

-- what the directory's row makes of it
abbrev pub directory_change : ℕ → Served → Machine → Change
directory_change b s w = record {
  machine = record w { entries = put_at b s.entry w.entries; memory = put_at b s.memory w.memory };
  sent = s.sent;
  entry = None;
}

-- a message that is held stays under its key
abbrev pub served_change : ℕ → ℕ → Option Served → Machine → Change
served_change key b None w = no_change w
served_change key b (Some s) w = directory_change b s (record w { net = taken key w.net })

-- only a number below the machine's count is a hart: at another nothing is enabled, and a message to it stays in flight
abbrev pub if_hart : ℕ → Machine → Change → Change
if_hart i w c = cond (nat_lt i w.setting.count) c (no_change w)

-- a message arrives at the directory, or at a hart
abbrev pub arrival : ℕ → Message → Option ℕ → Machine → Change
arrival key m None w = served_change key (block_of m) (directory_row w.setting.count m (w.entries (block_of m)) (w.memory (block_of m))) w
arrival key m (Some i) w = if_hart i w (hart_change i (message_row w.setting.count i m (w.harts i)) (record w { net = taken key w.net }))

abbrev pub delivery : ℕ → Option Message → Machine → Change
delivery key None w = no_change w
delivery key (Some m) w = arrival key m (receiver_of m) w

-- what a step makes of the machine, where these victims are evicted
abbrev pub change_of : (ℕ → Option ℕ) → Step → Machine → Change
change_of victim (Core i) w = if_hart i w (hart_change_if i (core_row w.setting i w.stamps victim (w.harts i)) w)
change_of victim (Evict i b) w = if_hart i w (hart_change_if i (evict_row i b (w.harts i)) w)
change_of victim (Deliver key) w = delivery key (w.net key) w

-- a hart that lacks a block may name this victim for it, where it has no line of it yet
abbrev pub MayLack : Geometry → Hart → (ℕ → Option ℕ) → Move → Type 0
MayLack g h victim Rests = Unit {0}
MayLack g h victim (Makes t) = Unit {0}
MayLack g h victim (Lacks kind b) = h.lines b ≡ None → MayName g h.lines b (victim b)

-- the victims of a step are those that the hart's cache may name
abbrev pub MayNameIn : Geometry → Machine → Step → (ℕ → Option ℕ) → Type 0
MayNameIn g w (Core i) victim = MayLack g (w.harts i) victim (core_move w.setting i w.stamps (w.harts i))
MayNameIn g w (Evict i b) victim = Unit {0}
MayNameIn g w (Deliver key) victim = Unit {0}

-- a change comes about: the machine after it has the messages that were sent under free keys
abbrev pub ComesAbout : Change → Option Entry → Machine → Type 0
ComesAbout c e w = (e ≡ c.entry) × (net : Network) × Sends c.machine.net c.sent net × (w ≡ record c.machine { net = net })

-- a step, with the entry that it gives, leads from one machine to another
abbrev pub Steps : Geometry → Machine → Step → Option Entry → Machine → Type 0
Steps g v s e w = (victim : ℕ → Option ℕ) × MayNameIn g v s victim × ComesAbout (change_of victim s v) e w

-- steps, one after another, with their entries
abbrev pub Runs : Geometry → Machine → List Step → List Entry → Machine → Type 0
Runs g v [] es w = (es ≡ []) × (w ≡ v)
Runs g v (s ∷ ss) es w = (u : Machine) × (e : Option Entry) × (fs : List Entry) × Steps g v s e u × Runs g u ss fs w × (es ≡ option_to_list e ++ fs)
