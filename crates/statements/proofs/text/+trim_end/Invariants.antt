use Rattle.std.proofs.Common.{length}
use Rattle.statements.proofs.text.+trim_end.Given as goal

abbrev pub decreases-trim_end : goal.decreases-trim_end
decreases-trim_end l = length l.text.now
