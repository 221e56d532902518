use Rattle.std.proofs.Common.{◌≡◌, ◌<◌, ◌+◌, ℕ, cond, slice_index}
use Rattle.std.specs.Prelude.{◌&&◌, nat_le, nat_lt}
use Rattle.table.specs.Program.{byte_in}
use Rattle.loader.specs.Memory.{mem_of}
use Rattle.loader.proofs.memory.lay_segment.Given as goal

-- the first k bytes of the segment stand
abbrev pub invariant-loop-k : goal.invariant-loop-k
invariant-loop-k l = ((j : ℕ) → j < l.k → slice_index l.segment.bytes j < 256) × ((a : ℕ) → mem_of l.memory a ≡ cond (nat_le l.segment.addr a && nat_lt a (l.segment.addr + l.k)) (byte_in l.segment a) (mem_of l.fn.memory a))
