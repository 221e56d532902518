use Rattle.std.proofs.Common.{Ok}
use Rattle.std.specs.List.{flat_map, range_with_len}
use Rattle.texts.specs.Puts.{Puts}
use Rattle.machine.specs.States.{shown}
use Rattle.debugger.specs.Looks.{line_of_hart}
use Rattle.debugger.proofs.commands.harts.put_harts.Given as goal

abbrev pub invariant-loop-number : goal.invariant-loop-number
invariant-loop-number g l =
    Puts (g.S.Sink.state l.initial.sink) (g.S.Sink.state l.sink)
    (flat_map (line_of_hart l.names (shown g.row.SETS l.machine)) (range_with_len 0 l.number)) (Ok tt)
