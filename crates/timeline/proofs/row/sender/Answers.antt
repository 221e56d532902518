use Rattle.std.proofs.Common.{sym, ◌∙◌}
use Rattle.timeline.specs.Rows.{sends}
use Rattle.timeline.proofs.Finding.{found}
use Rattle.timeline.proofs.row.sender.Goals as goal

pub returns-then-sends : goal.returns-then-sends
returns-then-sends c =
    found (sends c.args.number) c.args.rows.now c.loop-row.row-index c.row-item.result c.loop-row-test.true c.row-item.is (sym c.sends.ensures ∙ c.if-sends.true) ∙ c.loop-row.invariant
