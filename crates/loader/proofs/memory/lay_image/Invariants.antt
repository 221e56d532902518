use Rattle.std.proofs.Common.{◌≡◌, ◌-◌, ℕ, drop, length}
use Rattle.table.specs.Program.{AreBytes, image_at}
use Rattle.loader.specs.Memory.{mem_of}
use Rattle.loader.proofs.memory.lay_image.Given as goal

-- the last k segments stand
abbrev pub invariant-loop-k : goal.invariant-loop-k
invariant-loop-k l = AreBytes (drop (length l.segments - l.k) l.segments) × ((a : ℕ) → mem_of l.memory a ≡ image_at (drop (length l.segments - l.k) l.segments) a)
