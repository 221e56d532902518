use Rattle.std.proofs.Common.{◌≡◌, ℕ, length}
use Rattle.outcomes.specs.Harts.{mem_at}
use Rattle.outcomes.specs.Overlays.{block_laid}
use Rattle.outcomes.proofs.overlay.lay_block.Given as goal

abbrev pub invariant-loop-k : goal.invariant-loop-k
invariant-loop-k l = (a : ℕ) → mem_at l.image l.memory a ≡ block_laid (length l.image) l.block l.bytes l.k (mem_at l.image l.fn.memory) a
