use Rattle.std.proofs.Common.{ap}
use Rattle.std.specs.List.{flat_map}
use Rattle.texts.proofs.Putting.{puts-same}
use Rattle.watch.specs.Traffic.{figure_at}
use Rattle.watch.specs.MachineTexts.{figure_line}
use Rattle.watch.proofs.machine_text.put_machine_csv.Goals as goal

pub returns : goal.returns
returns g c = puts-same (ap (flat_map (figure_line (figure_at c.args.traffic.now))) c.figures.ensures) c.put_lines.ensures
