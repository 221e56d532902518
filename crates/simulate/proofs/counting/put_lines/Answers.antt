use Rattle.texts.proofs.Putting.{puts-both, puts-cut}
use Rattle.watch.specs.Traffic.{figure_at}
use Rattle.watch.specs.MachineTexts.{machine_lines}
use Rattle.simulate.proofs.counting.put_lines.Goals as goal

pub returns-in_err-put_csv : goal.returns-in_err-put_csv
returns-in_err-put_csv g c = puts-cut (machine_lines (figure_at c.args.tally.now.machine)) c.in_err-put_csv.was c.put_csv.ensures c.from_residual.ensures.0

pub returns : goal.returns
returns g c = puts-both c.in_ok-put_csv.ensures c.put_machine_csv.ensures
