use Rattle.std.proofs.Common.{◌≡◌, ◌+◌, length, ℕ, ◌*◌, ◌<◌, get_or}
use Rattle.undo_log.specs.Bytes.{word_at}
use Rattle.undo_log.proofs.record.read_record.Given as goal

abbrev pub invariant-loop-k : goal.invariant-loop-k
invariant-loop-k l = (length l.before ≡ 8) × ((k : ℕ) → k < l.k → get_or l.before k 0 ≡ word_at l.bytes (l.at + 4 + 4 * k))
