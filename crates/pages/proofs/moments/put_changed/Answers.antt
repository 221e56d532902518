use Rattle.std.proofs.Common.{◌++◌, codes}
use Rattle.texts.proofs.Putting.{puts-both, puts-cut}
use Rattle.pages.specs.Harts.{hart_text}
use Rattle.pages.proofs.moments.put_changed.Goals as goal

pub returns-in_err-put_all : goal.returns-in_err-put_all
returns-in_err-put_all g c = puts-cut (hart_text c.args.names.now g.row.SETS c.args.machine.now c.args.hart ++ codes ",") c.in_err-put_all.was c.put_all.ensures c.from_residual.ensures.0

pub returns-in_err-put_hart : goal.returns-in_err-put_hart
returns-in_err-put_hart g c = puts-both c.in_ok-put_all.ensures (puts-cut (codes ",") c.in_err-put_hart.was c.put_hart.ensures c.from_residual-in_err-put_hart.ensures.0)

pub returns : goal.returns
returns g c = puts-both c.in_ok-put_all.ensures (puts-both c.in_ok-put_hart.ensures c.put_all-2.ensures)
