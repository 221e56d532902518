use Rattle.std.proofs.Common.{◌≡◌, None}
use Rattle.undo_log.specs.Undo.{oldest}
use Rattle.undo_log.proofs.Listed.{first_records}
use Rattle.undo_log.proofs.log.UndoLog.oldest.Given as goal

abbrev pub invariant-loop-k : goal.invariant-loop-k
invariant-loop-k l = oldest (first_records l.self-inside.bytes l.k) l.block ≡ None
