use Rattle.hart.specs.Locals.{IsActive}
use Rattle.std.proofs.Common.{◌≤◌, ◌-◌}
use Rattle.board.specs.Leases.{HasRun}
use Rattle.board.proofs.trace.skim.Given as goal

-- the words so far were retired, and the hart may go on
abbrev pub invariant-loop-made : goal.invariant-loop-made
invariant-loop-made g l = HasRun g.row.SETS (λ es. Unit {0}) l.text.segments.now l.made l.initial.hart l.hart × (l.made ≤ l.most) × IsActive l.hart

abbrev pub decreases-loop-made : goal.decreases-loop-made
decreases-loop-made g l = l.most - l.made
