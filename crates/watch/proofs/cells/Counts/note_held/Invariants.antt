use Rattle.std.proofs.Common.{ℕ}
use Rattle.machine.specs.States.{shown}
use Rattle.watch.specs.Kinds.{Grows, count_at, held_behind, number_in}
use Rattle.watch.specs.declared.kinds.Kind.{Kind}
use Rattle.watch.proofs.cells.Counts.note_held.Given as goal

-- the requests of the first harts are counted
abbrev pub invariant-loop-i : goal.invariant-loop-i
invariant-loop-i g l = (h : ℕ) (k : Kind) → Grows (count_at l.fn.self h k) (number_in h k (held_behind (shown g.row.SETS l.machine) l.served l.block l.i)) (count_at l.self h k)
