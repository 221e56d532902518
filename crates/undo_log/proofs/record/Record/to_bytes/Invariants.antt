use Rattle.std.proofs.Common.{◌≡◌, ◌+◌, ◌*◌, ◌∷◌, length, take}
use Rattle.std.specs.List.{flat_map}
use Rattle.std.specs.Int.{w32, to_le_bytes}
use Rattle.undo_log.proofs.record.Record.to_bytes.Given as goal

abbrev pub invariant-loop-k : goal.invariant-loop-k
invariant-loop-k l = (length l.bytes ≡ 36) × (take (4 + 4 * l.k) l.bytes ≡ flat_map (to_le_bytes w32) (32 * l.self.block ∷ take l.k l.self.before))
