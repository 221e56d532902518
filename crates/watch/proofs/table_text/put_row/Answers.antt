use Rattle.std.proofs.Common.{◌++◌, codes}
use Rattle.std.specs.List.{flat_map, range_with_len}
use Rattle.texts.proofs.Putting.{puts-both, puts-cut}
use Rattle.watch.specs.Kinds.{count_at}
use Rattle.watch.specs.CountTexts.{cell}
use Rattle.watch.proofs.table_text.put_row.Goals as goal

pub returns-in_err-put_name : goal.returns-in_err-put_name
returns-in_err-put_name g c =
    puts-cut (flat_map (cell (count_at c.args.counts.now) c.args.row) (range_with_len 0 c.args.harts) ++ codes "\n") c.in_err-put_name.was c.put_name.ensures c.from_residual.ensures.0

pub returns-in_err-put_cells : goal.returns-in_err-put_cells
returns-in_err-put_cells g c =
    puts-both c.in_ok-put_name.ensures (puts-cut (codes "\n") c.in_err-put_cells.was c.put_cells.ensures c.from_residual-in_err-put_cells.ensures.0)

pub returns : goal.returns
returns g c = puts-both c.in_ok-put_name.ensures (puts-both c.in_ok-put_cells.ensures c.put_all.ensures)
