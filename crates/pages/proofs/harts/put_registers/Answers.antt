use Rattle.std.proofs.Common.{◌++◌, codes}
use Rattle.std.specs.List.{flat_map, range_with_len}
use Rattle.texts.proofs.Putting.{puts-both, puts-cut}
use Rattle.pages.specs.Harts.{register_item}
use Rattle.pages.proofs.harts.put_registers.Goals as goal

pub returns-in_err-put_all : goal.returns-in_err-put_all
returns-in_err-put_all g c = puts-cut (flat_map (register_item c.args.regs.now) (range_with_len 0 32) ++ codes "],") c.in_err-put_all.was c.put_all.ensures c.from_residual.ensures.0

pub returns-in_err-put_values : goal.returns-in_err-put_values
returns-in_err-put_values g c = puts-both c.in_ok-put_all.ensures (puts-cut (codes "],") c.in_err-put_values.was c.put_values.ensures c.from_residual-in_err-put_values.ensures.0)

pub returns : goal.returns
returns g c = puts-both c.in_ok-put_all.ensures (puts-both c.in_ok-put_values.ensures c.put_all-2.ensures)
