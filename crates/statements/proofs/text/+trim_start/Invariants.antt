use Rattle.std.proofs.Common.{length}
use Rattle.statements.proofs.text.+trim_start.Given as goal

abbrev pub decreases-trim_start : goal.decreases-trim_start
decreases-trim_start l = length l.text.now
