-- The flat state that a program begins in.
use Rattle.std.specs.Prelude.{ℕ, cond, nat_lt, ◌-◌, ◌*◌, None, List, [], slice_set, replicate}
use Rattle.words.specs.declared.cause.Status.TheVariants.{Running}
use Rattle.words.specs.Limits.{stack_bytes}
use Rattle.table.specs.Program.{image_at}
use Rattle.flat.specs.State.{Setting, FlatHart, Flat, idle}
use Rattle.flat.specs.Causes.{logs_from}

-- below the undo logs lie the stacks, that of hart 0 highest
abbrev pub stack_top : Setting → ℕ → ℕ
stack_top s i = logs_from s - stack_bytes * i

-- sp (x2) is the top of the hart's stack, a0 (x10) its number, a1 (x11) the number of harts; all others are 0
abbrev pub first_regs : Setting → ℕ → List ℕ
first_regs s i = slice_set (slice_set (slice_set (replicate 32 0) 2 (stack_top s i)) 10 i) 11 s.count

abbrev pub first_hart : Setting → ℕ → ℕ → FlatHart
first_hart s entry i = record { regs = first_regs s i; pc = entry; output = []; status = Running; tx = None }

-- memory holds the segments' bytes, and 0 elsewhere
abbrev pub first_state : Setting → ℕ → Flat
first_state s entry = record {
  setting = s;
  mem = λ a. image_at s.segments a;
  hart = λ i. cond (nat_lt i s.count) (first_hart s entry i) idle;
}
