use Rattle.std.proofs.Common.{◌-◌, Ok}
use Rattle.texts.specs.Puts.{Puts}
use Rattle.network.proofs.Walks.{text_before}
use Rattle.pages.specs.Flights.{flight_item}
use Rattle.pages.proofs.flights.put_flights.Given as goal

-- those with lower numbers were put
abbrev pub invariant-loop-flight : goal.invariant-loop-flight
invariant-loop-flight g l =
    Puts (g.S.Sink.state l.initial.sink) (g.S.Sink.state l.sink)
    (text_before (flight_item l.from) l.number l.machine.flights) (Ok tt)

abbrev pub decreases-loop-flight : goal.decreases-loop-flight
decreases-loop-flight g l = l.machine.sent - l.number
