use Rattle.std.proofs.Common.{◌≡◌, drop}
use Rattle.std.specs.List.{find}
use Rattle.timeline.specs.Rows.{ends}
use Rattle.timeline.proofs.row.end.Given as goal

-- no row before passes
abbrev pub invariant-loop-row : goal.invariant-loop-row
invariant-loop-row l = find (ends l.begin) (drop l.row-index l.rows) ≡ find (ends l.begin) l.rows
