-- A step of the machine: one of the protocol, in which the cache's rules say which line makes way and where lines stand, the bytes of undo logs change by their records, each message
-- that is sent has the next number, and stands after those that were sent before, and the directory keeps just the entries in use.
use Rattle.std.specs.Prelude.{ℕ, ◌≡◌, Option, Some, None, slice_get}
use Rattle.std.specs.Option.{option_and_then}
use Rattle.words.specs.declared.entry.Entry.{Entry}
use Rattle.words.specs.declared.entry.Step.{Step}
use Rattle.words.specs.declared.entry.Step.TheVariants.{Core, Evict, Deliver}
use Rattle.protocol.specs.Caches.{Geometry}
use Rattle.protocol.specs.Machine.{Change, MayNameIn, change_of}
use Rattle.network.specs.Flights.{AreInOrder}
use Rattle.directory.specs.Blocks.{KeepsUsed}
use Rattle.hart.specs.Rows.{victim_of}
use Rattle.hart.specs.Places.{KeepsWays}
use Rattle.hart.specs.Staying.{KeepsLog}
use Rattle.machine.specs.Mail.{Mail, SendsOn, IsLeft, in_flight, mail_of}
use Rattle.machine.specs.States.{Seat, State, shown}

-- the block whose line makes way for another's in a step: that which the cache of the step's hart names
abbrev pub victims : ℕ → State → Step → ℕ → Option ℕ
victims sets m (Core i) b = option_and_then (λ s. victim_of sets s.hart.cache b) (slice_get m.seats i)
victims sets m (Evict i c) b = None
victims sets m (Deliver number) b = None

-- what a step makes of the machine, where these lines make way
abbrev pub change_by : ℕ → State → Step → Change
change_by sets m step = change_of (victims sets m step) step (shown sets m)

-- a change comes about, with this entry: of the messages in flight those are left that it leaves, and then those that it sends are sent, numbered one after another
pub record BringsAbout (sets : ℕ) (v : State) (c : Change) (e : Option Entry) (w : State) : Type 0 where
  pub entry : e ≡ c.entry
  pub machine : shown sets w ≡ record c.machine { net = in_flight w.flights }
  pub left : Mail
  pub leaves : IsLeft (mail_of v.flights) c.machine.net left
  pub sends : SendsOn left v.sent c.sent (mail_of w.flights) w.sent

-- in each hart's cache lines stand where they stood, and a block that gets one gets the lowest free way of its set
abbrev pub AllKeepWays : ℕ → State → State → Type 0
AllKeepWays sets v w = (i : ℕ) (old new : Seat) → slice_get v.seats i ≡ Some old → slice_get w.seats i ≡ Some new → KeepsWays sets old.hart.cache new.hart.cache

-- and each hart's undo log keeps its bytes but for those of records that come
abbrev pub AllKeepLogs : State → State → Type 0
AllKeepLogs v w = (i : ℕ) (old new : Seat) → slice_get v.seats i ≡ Some old → slice_get w.seats i ≡ Some new → KeepsLog old.hart.tx new.hart.tx

-- a step is made, and gives this entry, or none
pub record MakesStep (g : Geometry) (v : State) (step : Step) (e : Option Entry) (w : State) : Type 0 where
  pub may : MayNameIn g (shown g.sets v) step (victims g.sets v step)
  pub made : BringsAbout g.sets v (change_by g.sets v step) e w
  pub ways : AllKeepWays g.sets v w
  pub logs : AllKeepLogs v w
  pub kept : KeepsUsed w.directory
  pub order : AreInOrder w.flights
