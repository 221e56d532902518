use Rattle.std.proofs.Common.{codes}
use Rattle.texts.proofs.Putting.{puts-both, puts-cut}
use Rattle.pages.proofs.harts.put_item.Goals as goal

pub returns-in_err-put_hart : goal.returns-in_err-put_hart
returns-in_err-put_hart g c = puts-cut (codes ",") c.in_err-put_hart.was c.put_hart.ensures c.from_residual.ensures.0

pub returns : goal.returns
returns g c = puts-both c.in_ok-put_hart.ensures c.put_all.ensures
