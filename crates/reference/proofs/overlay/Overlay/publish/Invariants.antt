use Rattle.std.proofs.Common.{◌≡◌, ℕ, length}
use Rattle.std.specs.Option.{unwrap_or}
use Rattle.std.specs.BTreeMap.{btree_map_len}
use Rattle.loader.specs.Memory.{mem_of}
use Rattle.reference.specs.Overlays.{byte_over, within}
use Rattle.reference.proofs.overlay.Overlay.publish.Given as goal

-- what stands in memory under the bytes that are left to lay
abbrev pub invariant-loop-block : goal.invariant-loop-block
invariant-loop-block l = (a : ℕ) → unwrap_or (within (length l.memory) (byte_over l.self) a) (mem_of l.memory a) ≡ unwrap_or (within (length l.fn.memory) (byte_over l.fn.self) a) (mem_of l.fn.memory a)

abbrev pub decreases-loop-block : goal.decreases-loop-block
decreases-loop-block l = btree_map_len l.self.blocks
