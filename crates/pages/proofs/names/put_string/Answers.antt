use Rattle.std.proofs.Common.{◌++◌, codes}
use Rattle.texts.proofs.Putting.{puts-both, puts-cut}
use Rattle.pages.specs.Names.{quoted}
use Rattle.pages.proofs.names.put_string.Goals as goal

pub returns-in_err-put_all : goal.returns-in_err-put_all
returns-in_err-put_all g c = puts-cut (quoted c.args.name.now ++ codes "\",") c.in_err-put_all.was c.put_all.ensures c.from_residual.ensures.0

pub returns-in_err-put_quoted : goal.returns-in_err-put_quoted
returns-in_err-put_quoted g c = puts-both c.in_ok-put_all.ensures (puts-cut (codes "\",") c.in_err-put_quoted.was c.put_quoted.ensures c.from_residual-in_err-put_quoted.ensures.0)

pub returns : goal.returns
returns g c = puts-both c.in_ok-put_all.ensures (puts-both c.in_ok-put_quoted.ensures c.put_all-2.ensures)
