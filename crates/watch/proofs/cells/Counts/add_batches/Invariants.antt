use Rattle.std.proofs.Common.{ℕ, get_or}
use Rattle.watch.specs.Kinds.{Grows, count_at}
use Rattle.watch.specs.Runs.{batch_shares}
use Rattle.watch.specs.declared.kinds.Kind.{Kind}
use Rattle.watch.proofs.Batches.{below}
use Rattle.watch.proofs.cells.Counts.add_batches.Given as goal

-- the batches of the first harts are counted
abbrev pub invariant-loop-i : goal.invariant-loop-i
invariant-loop-i l = (h : ℕ) (k : Kind) → Grows (count_at l.fn.self h k) (below l.i h (batch_shares h k l.begun (get_or l.batches.bits h 0))) (count_at l.self h k)
