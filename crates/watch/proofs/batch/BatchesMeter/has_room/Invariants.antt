use Rattle.std.proofs.Common.{◌<◌, ℕ, get_or}
use Rattle.watch.proofs.batch.BatchesMeter.has_room.Given as goal

-- the first numbers have room
abbrev pub invariant-loop-i : goal.invariant-loop-i
invariant-loop-i l = (h : ℕ) → h < l.i → get_or l.self.bits h 0 < 2147483648
