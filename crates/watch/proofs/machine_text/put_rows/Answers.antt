use Rattle.texts.proofs.Putting.{puts-nothing, puts-cut_at}
use Rattle.watch.specs.Traffic.{figure_at}
use Rattle.watch.specs.MachineTexts.{figure_row}
use Rattle.watch.proofs.machine_text.put_rows.Goals as goal

pub loop-figure-init : goal.loop-figure-init
loop-figure-init g c = puts-nothing _

pub returns-in_err-put_row : goal.returns-in_err-put_row
returns-in_err-put_row g c =
    puts-cut_at (figure_row (figure_at c.args.traffic.now)) c.args.figures.now c.loop-figure.figure-index _ c.loop-figure-test.true c.loop-figure.invariant c.in_err-put_row.was c.put_row.ensures c.from_residual.ensures.0
