use Rattle.std.proofs.Common.{◌-◌, Ok}
use Rattle.texts.specs.Puts.{Puts}
use Rattle.network.proofs.Walks.{text_before}
use Rattle.debugger.specs.Looks.{flight_line}
use Rattle.debugger.proofs.commands.flights.put_messages.Given as goal

-- those with lower numbers were put
abbrev pub invariant-loop-flight : goal.invariant-loop-flight
invariant-loop-flight g l =
    Puts (g.S.Sink.state l.initial.sink) (g.S.Sink.state l.sink)
    (text_before (flight_line g.row.SETS l.machine) l.number l.machine.flights) (Ok tt)

abbrev pub decreases-loop-flight : goal.decreases-loop-flight
decreases-loop-flight g l = l.machine.sent - l.number
