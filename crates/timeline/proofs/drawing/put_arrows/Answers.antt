use Rattle.std.proofs.Common.{Ok, ap}
use Rattle.texts.proofs.Putting.{puts-nothing, puts-same, puts-cut_at, puts-one_more}
use Rattle.timeline.specs.Drawings.{arrow_of}
use Rattle.timeline.proofs.drawing.put_arrows.Goals as goal

pub loop-row-init : goal.loop-row-init
loop-row-init g c = puts-nothing _

pub returns-in_err-put_arrow_if : goal.returns-in_err-put_arrow_if
returns-in_err-put_arrow_if g c =
    let text = (arrow_of c.args.harts c.args.rows.now) in
    puts-cut_at text c.args.rows.now c.loop-row.row-index c.row-item.result c.loop-row-test.true c.loop-row.invariant c.in_err-put_arrow_if.was (puts-same (ap text c.row-item.is) c.put_arrow_if.ensures) c.from_residual.ensures.0

pub loop-row-preserved : goal.loop-row-preserved
loop-row-preserved g c =
    let text = (arrow_of c.args.harts c.args.rows.now) in
    puts-one_more text c.args.rows.now c.loop-row.row-index c.row-item.result c.loop-row-test.true c.loop-row.invariant (puts-same {r = Ok tt} (ap text c.row-item.is) c.in_ok-put_arrow_if.ensures)
