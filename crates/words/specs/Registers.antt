-- Reads and writes of registers.
use Rattle.std.specs.Prelude.{ℕ, cond, ◌==◌, Option, Some, None, List, slice_index, slice_set}

-- x0 reads 0
abbrev pub reg : List ℕ → ℕ → ℕ
reg regs r = cond (r == 0) 0 (slice_index regs r)

-- the registers after a write; one to x0 is lost
abbrev pub with_reg : List ℕ → Option (ℕ × ℕ) → List ℕ
with_reg regs None = regs
with_reg regs (Some w) = cond (w.0 == 0) regs (slice_set regs w.0 w.1)
