use Rattle.std.proofs.Common.{◌≡◌, ℕ}
use Rattle.words.specs.Bytes.{byte_of}
use Rattle.flat.specs.Bytes.{laid}
use Rattle.loader.specs.Memory.{mem_of}
use Rattle.loader.proofs.bytes.lay.Given as goal

abbrev pub invariant-loop-k : goal.invariant-loop-k
invariant-loop-k l = (a : ℕ) → mem_of l.memory a ≡ laid l.address l.k (byte_of l.value) (mem_of l.fn.memory) a
