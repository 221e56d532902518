use Rattle.std.proofs.Common.{Ok, ap}
use Rattle.texts.proofs.Putting.{puts-nothing, puts-same, puts-cut_at, puts-one_more}
use Rattle.timeline.specs.Shapes.{step_of}
use Rattle.timeline.proofs.drawing.put_steps.Goals as goal

pub loop-row-init : goal.loop-row-init
loop-row-init g c = puts-nothing _

pub returns-in_err-put_step : goal.returns-in_err-put_step
returns-in_err-put_step g c =
    let text = (step_of c.args.harts) in
    puts-cut_at text c.args.rows.now c.loop-row.row-index c.row-item.result c.loop-row-test.true c.loop-row.invariant c.in_err-put_step.was (puts-same (ap text c.row-item.is) c.put_step.ensures) c.from_residual.ensures.0

pub loop-row-preserved : goal.loop-row-preserved
loop-row-preserved g c =
    let text = (step_of c.args.harts) in
    puts-one_more text c.args.rows.now c.loop-row.row-index c.row-item.result c.loop-row-test.true c.loop-row.invariant (puts-same {r = Ok tt} (ap text c.row-item.is) c.in_ok-put_step.ensures)
