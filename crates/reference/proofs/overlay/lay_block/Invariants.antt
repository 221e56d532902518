use Rattle.std.proofs.Common.{◌≡◌, ℕ, length}
use Rattle.loader.specs.Memory.{mem_of}
use Rattle.reference.specs.Overlays.{block_laid}
use Rattle.reference.proofs.overlay.lay_block.Given as goal

abbrev pub invariant-loop-k : goal.invariant-loop-k
invariant-loop-k l = (a : ℕ) → mem_of l.memory a ≡ block_laid (length l.fn.memory) l.block l.bytes l.k (mem_of l.fn.memory) a
