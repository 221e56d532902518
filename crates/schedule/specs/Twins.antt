-- Runs that no one tells apart.
use Rattle.std.specs.Prelude.{◌≡◌, List}
use Rattle.std.specs.List.{AllZip}
use Rattle.protocol.specs.Caches.{Geometry}
use Rattle.machine.specs.Twins.{AreTwins}
use Rattle.schedule.specs.Moments.{Moment}

-- the same step was made, with the same entry, where as many messages had been sent and the same message arrived; and the machines after it are twins
pub record AreTwinMoments (g : Geometry) (one other : Moment) : Type 0 where
  pub sent : one.sent ≡ other.sent
  pub step : one.step ≡ other.step
  pub arrival : one.arrival ≡ other.arrival
  pub entry : one.entry ≡ other.entry
  pub after : AreTwins g one.after other.after

-- moment by moment
abbrev pub AreTwinRuns : Geometry → List Moment → List Moment → Type 0
AreTwinRuns g ms ns = AllZip (AreTwinMoments g) ms ns
