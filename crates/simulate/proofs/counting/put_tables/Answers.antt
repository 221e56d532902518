use Rattle.texts.proofs.Putting.{puts-both, puts-cut}
use Rattle.watch.specs.Traffic.{figure_at}
use Rattle.watch.specs.MachineTexts.{machine_table}
use Rattle.simulate.proofs.counting.put_tables.Goals as goal

pub returns-in_err-put_table : goal.returns-in_err-put_table
returns-in_err-put_table g c = puts-cut (machine_table (figure_at c.args.tally.now.machine)) c.in_err-put_table.was c.put_table.ensures c.from_residual.ensures.0

pub returns : goal.returns
returns g c = puts-both c.in_ok-put_table.ensures c.put_machine_table.ensures
