use Rattle.std.proofs.Common.{sym, ◌∙◌}
use Rattle.timeline.specs.Rows.{ends}
use Rattle.timeline.proofs.Finding.{found}
use Rattle.timeline.proofs.row.end.Goals as goal

pub returns-then-ends : goal.returns-then-ends
returns-then-ends c =
    found (ends c.args.begin.now) c.args.rows.now c.loop-row.row-index c.row-item.result c.loop-row-test.true c.row-item.is (sym c.ends.ensures ∙ c.if-ends.true) ∙ c.loop-row.invariant
