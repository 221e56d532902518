use Rattle.render.specs.Registers.{progress_line}
use Rattle.texts.proofs.Putting.{puts-both, puts-cut}
use Rattle.render.proofs.registers.put_registers.Goals as goal

pub returns-in_err-put_values : goal.returns-in_err-put_values
returns-in_err-put_values g c = puts-cut (progress_line c.args.names.now c.args.pc c.args.status) c.in_err-put_values.was c.put_values.ensures c.from_residual.ensures.0

pub returns : goal.returns
returns g c = puts-both c.in_ok-put_values.ensures c.put_progress.ensures
