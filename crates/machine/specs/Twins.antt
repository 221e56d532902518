-- Machines that no step tells apart.
use Rattle.std.specs.Prelude.{ℕ, ◌≡◌, Some, slice_get}
use Rattle.protocol.specs.Caches.{Geometry}
use Rattle.directory.specs.Blocks.{shown_kept}
use Rattle.hart.specs.Places.{AreLaidAlike}
use Rattle.hart.specs.Staying.{AreLoggedAlike}
use Rattle.machine.specs.States.{Seat, State, shown}

-- two machines are one machine of the protocol, with the same messages in flight, in the same order and with the same numbers; the next message gets the same number;
-- the directory keeps the same entries, in the same order; in each hart's cache lines stand in the same ways; and each hart's undo log has the same bytes at the same addresses
pub record AreTwins (g : Geometry) (v w : State) : Type 0 where
  pub machine : shown g.sets v ≡ shown g.sets w
  pub flights : v.flights ≡ w.flights
  pub sent : v.sent ≡ w.sent
  pub kept : shown_kept v.directory ≡ shown_kept w.directory
  pub caches : (i : ℕ) (one other : Seat) → slice_get v.seats i ≡ Some one → slice_get w.seats i ≡ Some other → AreLaidAlike g.sets one.hart.cache other.hart.cache
  pub logs : (i : ℕ) (one other : Seat) → slice_get v.seats i ≡ Some one → slice_get w.seats i ≡ Some other → AreLoggedAlike one.hart.tx.log other.hart.tx.log
