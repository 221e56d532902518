use Rattle.std.proofs.Common.{ap}
use Rattle.std.specs.List.{flat_map}
use Rattle.texts.proofs.Putting.{puts-both, puts-cut, puts-same}
use Rattle.watch.specs.Traffic.{figure_at}
use Rattle.watch.specs.MachineTexts.{figures, figure_row}
use Rattle.watch.proofs.machine_text.put_machine_table.Goals as goal

pub returns-in_err-put_all : goal.returns-in_err-put_all
returns-in_err-put_all g c = puts-cut (flat_map (figure_row (figure_at c.args.traffic.now)) figures) c.in_err-put_all.was c.put_all.ensures c.from_residual.ensures.0

pub returns : goal.returns
returns g c = puts-both c.in_ok-put_all.ensures (puts-same (ap (flat_map (figure_row (figure_at c.args.traffic.now))) c.figures.ensures) c.put_rows.ensures)
