use Rattle.std.proofs.Common.{◌≡◌, drop}
use Rattle.std.specs.List.{find}
use Rattle.timeline.specs.Rows.{sends}
use Rattle.timeline.proofs.row.sender.Given as goal

-- no row before passes
abbrev pub invariant-loop-row : goal.invariant-loop-row
invariant-loop-row l = find (sends l.number) (drop l.row-index l.rows) ≡ find (sends l.number) l.rows
