use Rattle.std.proofs.Common.{◌-◌, Ok}
use Rattle.texts.specs.Puts.{Puts}
use Rattle.timeline.specs.Events.{sent_event}
use Rattle.network.proofs.Walks.{text_before}
use Rattle.timeline.proofs.events.put_all_sent.Given as goal

-- what was sent with lower numbers was put
abbrev pub invariant-loop-flight : goal.invariant-loop-flight
invariant-loop-flight g l =
    Puts (g.S.Sink.state l.initial.sink) (g.S.Sink.state l.sink)
    (text_before (sent_event l.place.time l.place.lane l.sent) l.number l.machine.flights) (Ok tt)

abbrev pub decreases-loop-flight : goal.decreases-loop-flight
decreases-loop-flight g l = l.machine.sent - l.number
