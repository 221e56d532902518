-- What a running transaction has a claim to.
use Rattle.std.specs.Prelude.{ℕ, Bool, ◌||◌, Option}
use Rattle.flat.specs.State.{Tx, has_read, has_written}

-- whether a transaction has read or written the block
abbrev pub has_touched : Option Tx → ℕ → Bool
has_touched tx b = has_read tx b || has_written tx b
