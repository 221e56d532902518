use Rattle.std.proofs.Common.{◌++◌, codes, ap, Ok}
use Rattle.texts.proofs.Putting.{puts-both, puts-cut, puts-same}
use Rattle.watch.specs.Traffic.{figure_at}
use Rattle.watch.specs.CountTexts.{count_cell}
use Rattle.watch.proofs.machine_text.put_row.Goals as goal

pub returns-in_err-put_label : goal.returns-in_err-put_label
returns-in_err-put_label g c =
    puts-cut (count_cell (figure_at c.args.traffic.now c.args.figure) ++ codes "\n") c.in_err-put_label.was c.put_label.ensures c.from_residual.ensures.0

pub returns-in_err-put_count : goal.returns-in_err-put_count
returns-in_err-put_count g c =
    puts-both c.in_ok-put_label.ensures (puts-cut (codes "\n") c.in_err-put_count.was (puts-same (ap count_cell c.figure.ensures) c.put_count.ensures) c.from_residual-in_err-put_count.ensures.0)

pub returns : goal.returns
returns g c = puts-both c.in_ok-put_label.ensures (puts-both (puts-same {r = Ok tt} (ap count_cell c.figure.ensures) c.in_ok-put_count.ensures) c.put_all.ensures)
