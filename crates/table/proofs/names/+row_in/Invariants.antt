use Rattle.std.proofs.Common.{length}
use Rattle.table.proofs.names.+row_in.Given as goal

abbrev pub decreases-row_in : goal.decreases-row_in
decreases-row_in l = length l.rows.now
