-- Sessions that no command tells apart.
use Rattle.std.specs.Prelude.{◌≡◌}
use Rattle.protocol.specs.Caches.{Geometry}
use Rattle.machine.specs.Twins.{AreTwins}
use Rattle.debugger.specs.Sessions.{Session}

-- their machines are twins, the same hart's core made the last step of a core, and there are the same breakpoints, in the same order
pub record AreTwinSessions (g : Geometry) (s t : Session) : Type 0 where
  pub machine : AreTwins g s.machine t.machine
  pub last : s.last ≡ t.last
  pub breakpoints : s.breakpoints ≡ t.breakpoints
