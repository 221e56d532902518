-- A machine of which no step was made.
use Rattle.std.specs.Prelude.{ℕ, ◌≡◌, ◌+◌, ◌-◌, ◌*◌, [], Some, None, replicate, slice_get}
use Rattle.words.specs.Limits.{log_bytes}
use Rattle.undo_log.specs.Log.{empty_log}
use Rattle.protocol.specs.Caches.{Geometry}
use Rattle.machine.specs.States.{Seat, State, setting_of}

-- nothing was sent so far, so that nothing is in flight; the directory keeps no entry; each way of each cache is free; and each byte of the undo logs is 0
pub record IsUnused (g : Geometry) (m : State) : Type 0 where
  pub sent : m.sent ≡ 0
  pub flights : m.flights ≡ []
  pub kept : m.directory.kept ≡ []
  pub caches : (i : ℕ) (s : Seat) → slice_get m.seats i ≡ Some s → s.hart.cache ≡ replicate g.sets (replicate g.ways None)
  pub logs : (i : ℕ) (s : Seat) → slice_get m.seats i ≡ Some s → s.hart.tx.log ≡ empty_log ((setting_of m).size - log_bytes * (i + 1))
