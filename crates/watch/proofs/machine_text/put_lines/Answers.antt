use Rattle.texts.proofs.Putting.{puts-nothing, puts-cut_at}
use Rattle.watch.specs.Traffic.{figure_at}
use Rattle.watch.specs.MachineTexts.{figure_line}
use Rattle.watch.proofs.machine_text.put_lines.Goals as goal

pub loop-figure-init : goal.loop-figure-init
loop-figure-init g c = puts-nothing _

pub returns-in_err-put_line : goal.returns-in_err-put_line
returns-in_err-put_line g c =
    puts-cut_at (figure_line (figure_at c.args.traffic.now)) c.args.figures.now c.loop-figure.figure-index _ c.loop-figure-test.true c.loop-figure.invariant c.in_err-put_line.was c.put_line.ensures c.from_residual.ensures.0
