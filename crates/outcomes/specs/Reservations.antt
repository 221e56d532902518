-- The blocks that harts have reserved, by hart.
use Rattle.std.specs.Prelude.{ℕ, Option, None}
use Rattle.std.specs.List.{slice_index_or}
use Rattle.outcomes.specs.declared.reservations.Reservations.{Reservations}

abbrev pub reserved_of : Reservations → ℕ → Option ℕ
reserved_of r i = slice_index_or r.blocks i None
