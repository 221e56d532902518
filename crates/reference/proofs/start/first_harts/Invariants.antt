use Rattle.std.proofs.Common.{◌≡◌, ℕ, cond}
use Rattle.std.specs.Prelude.{vec_len, nat_lt, slice_get}
use Rattle.std.specs.Option.{option_map_or}
use Rattle.flat.specs.State.{Setting, idle}
use Rattle.flat.specs.Start.{first_hart}
use Rattle.reference.specs.States.{hart_of}
use Rattle.reference.proofs.start.first_harts.Given as goal

-- the first i harts stand
abbrev pub invariant-loop-i : goal.invariant-loop-i
invariant-loop-i l = (vec_len l.harts ≡ l.i) × ((s : Setting) (j : ℕ) → s.size ≡ l.size → s.count ≡ l.count → option_map_or (hart_of l.size) (slice_get l.harts.items j) idle ≡ cond (nat_lt j l.i) (first_hart s l.entry j) idle)
