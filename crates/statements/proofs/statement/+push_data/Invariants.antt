use Rattle.std.proofs.Common.{length}
use Rattle.statements.proofs.statement.+push_data.Given as goal

abbrev pub decreases-push_data : goal.decreases-push_data
decreases-push_data l = length l.text.now
