use Rattle.std.proofs.Common.{◌≡◌, ℕ}
use Rattle.words.specs.Bytes.{byte_of}
use Rattle.flat.specs.Bytes.{laid}
use Rattle.outcomes.specs.Harts.{mem_at}
use Rattle.outcomes.proofs.memory.Memory.lay.Given as goal

-- the first k bytes are laid
abbrev pub invariant-loop-k : goal.invariant-loop-k
invariant-loop-k l = (a : ℕ) → mem_at l.image l.self a ≡ laid l.address l.k (byte_of l.value) (mem_at l.image l.fn.self) a
