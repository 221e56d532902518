-- What contracts see of the machine, and the protocol's machine that it is.
use Rattle.std.specs.Prelude.{ℕ, ◌≡◌, ◌<◌, ◌*◌, ◌-◌, ◌+◌, ◌^◌, List, length, replicate, Some, slice_get}
use Rattle.std.specs.Option.{option_map_or}
use Rattle.std.specs.List.{slice_index_or}
use Rattle.words.specs.Limits.{block_bytes, block_words, log_bytes}
use Rattle.network.specs.declared.net.Flight.{Flight}
use Rattle.network.specs.Flights.{AreInOrder}
use Rattle.loader.specs.Programs.{Program}
use Rattle.flat.specs.State.{Setting, Flat, idle}
use Rattle.protocol.specs.Messages.{Block}
use Rattle.protocol.specs.Hart.{Hart}
use Rattle.protocol.specs.Caches.{Geometry}
use Rattle.protocol.specs.Start.{first_hart}
use Rattle.protocol.specs.Machine.{Machine}
use Rattle.directory.specs.Blocks.{Blocks, KeepsUsed, entry_at}
use Rattle.hart.specs.Parts.{Parts}
use Rattle.hart.specs.Shown.{shown_hart}
use Rattle.isolation.specs.Belongs.{Belongs}
use Rattle.machine.specs.Mail.{in_flight}

-- a hart, and the bytes that it has put out
pub record Seat : Type 0 where
  pub hart : Parts
  pub output : List ℕ

-- the program; the harts by number; the directory with memory; the messages in flight, in the order of sending, and how many have been sent (up to the
-- greatest u64); and how many new stamps were taken
pub record State : Type 0 where
  pub program : Program
  pub seats : List Seat
  pub directory : Blocks
  pub flights : List Flight
  pub sent : ℕ
  pub stamps : ℕ

abbrev pub setting_of : State → Setting
setting_of m = record { segments = m.program.segments; size = block_bytes * length m.directory.memory; count = length m.seats }

-- hart i, whose cache has so many sets; what stands under a number that is no hart's is idle
abbrev pub hart_at : ℕ → List Seat → ℕ → Hart
hart_at sets seats i = option_map_or (λ s. shown_hart sets s.output s.hart) (slice_get seats i) (first_hart idle)

-- the words of a block; beyond memory there are zeros
abbrev pub words_of : List Block → ℕ → Block
words_of memory b = slice_index_or memory b (replicate block_words 0)

-- the protocol's machine
abbrev pub shown : ℕ → State → Machine
shown sets m = record {
  setting = setting_of m;
  harts = hart_at sets m.seats;
  entries = entry_at m.directory;
  memory = words_of m.directory.memory;
  net = in_flight m.flights;
  stamps = m.stamps;
}

-- caches of so many sets and ways
abbrev pub geometry : ℕ → ℕ → Geometry
geometry sets ways = record { sets = sets; ways = ways }

-- a hart sits at its place: it has the number i, in a machine of so many harts and bytes of memory, and its undo log is that of its
-- number, the log of hart 0 highest
pub record IsSeated (s : Setting) (i : ℕ) (h : Parts) : Type 0 where
  pub index : h.index ≡ i
  pub harts : h.harts ≡ s.count
  pub size : h.size ≡ s.size
  pub log : h.tx.log.base ≡ s.size - log_bytes * (i + 1)

-- what a machine keeps: its caches have a way, and are of a size that fits in memory; there are as many harts as the directory knows of, each at its
-- place; the directory keeps just the entries in use; the messages in flight stand in the order of sending; and a flat state belongs to it
pub record IsSound (sets ways : ℕ) (m : State) : Type 0 where
  pub some_way : 0 < ways
  pub fits : sets * ways < 2 ^ 32
  pub count : length m.seats ≡ m.directory.harts
  pub seats : (i : ℕ) (s : Seat) → slice_get m.seats i ≡ Some s → IsSeated (setting_of m) i s.hart
  pub kept : KeepsUsed m.directory
  pub order : AreInOrder m.flights
  pub flat : Flat
  pub belongs : Belongs (geometry sets ways) flat (shown sets m)
