use Rattle.std.proofs.Common.{length}
use Rattle.statements.proofs.statement.+all_found.Given as goal

abbrev pub decreases-all_found : goal.decreases-all_found
decreases-all_found l = length l.text.now
