use Rattle.std.proofs.Common.{take, Ok}
use Rattle.std.specs.List.{flat_map}
use Rattle.texts.specs.Puts.{Puts}
use Rattle.watch.specs.Traffic.{figure_at}
use Rattle.watch.specs.MachineTexts.{figure_line}
use Rattle.watch.proofs.machine_text.put_lines.Given as goal

abbrev pub invariant-loop-figure : goal.invariant-loop-figure
invariant-loop-figure g l =
    Puts (g.S.Sink.state l.initial.sink) (g.S.Sink.state l.sink) (flat_map (figure_line (figure_at l.traffic)) (take l.figure-index l.figures)) (Ok tt)
