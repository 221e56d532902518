-- The block that a hart has reserved, if any.
use Rattle.std.specs.Prelude.{ℕ, Bool, false, cond, ◌==◌, Option, Some, None}

-- a reservation, unless it is of this block
abbrev pub without_block : ℕ → Option ℕ → Option ℕ
without_block b None = None
without_block b (Some c) = cond (c == b) None (Some c)

-- whether this block is reserved
abbrev pub is_reserved : ℕ → Option ℕ → Bool
is_reserved b None = false
is_reserved b (Some c) = c == b
