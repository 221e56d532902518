-- The harts of a machine as a list.
use Rattle.std.specs.Prelude.{List}
use Rattle.std.specs.declared.alloc.Global.{Global}
use Rattle.machine.specs.States.{Seat}

-- where unused places are made
pub record Unused : Type 0 where
  pub alloc : Global

-- the harts, by number
pub record Seats : Type 0 where
  pub items : List Seat
