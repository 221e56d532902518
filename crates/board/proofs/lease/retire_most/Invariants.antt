use Rattle.std.proofs.Common.{◌≤◌, ◌-◌}
use Rattle.board.specs.Leases.{HasRun, TracesMore}
use Rattle.board.proofs.lease.retire_most.Given as goal

abbrev pub invariant-loop-made : goal.invariant-loop-made
invariant-loop-made g l = HasRun g.row.SETS (λ es. TracesMore g.T.Trace.traces l.initial.trace es l.trace) l.text.segments.now l.made l.initial.hart l.hart × (l.made ≤ l.most)

abbrev pub decreases-loop-made : goal.decreases-loop-made
decreases-loop-made g l = l.most - l.made
