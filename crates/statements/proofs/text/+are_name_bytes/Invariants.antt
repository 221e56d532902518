use Rattle.std.proofs.Common.{length}
use Rattle.statements.proofs.text.+are_name_bytes.Given as goal

abbrev pub decreases-are_name_bytes : goal.decreases-are_name_bytes
decreases-are_name_bytes l = length l.text.now
