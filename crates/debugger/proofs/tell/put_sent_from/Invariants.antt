use Rattle.std.proofs.Common.{◌-◌, ◌≤◌, Ok}
use Rattle.texts.specs.Puts.{Puts}
use Rattle.network.proofs.Walks.{text_before}
use Rattle.debugger.specs.Texts.{line_from}
use Rattle.debugger.proofs.tell.put_sent_from.Given as goal

-- those with lower numbers were put, if they have the first or a greater one
abbrev pub invariant-loop-flight : goal.invariant-loop-flight
invariant-loop-flight g l =
    (l.from ≤ l.number)
    × Puts (g.S.Sink.state l.initial.sink) (g.S.Sink.state l.sink) (text_before (line_from l.from) l.number l.machine.flights) (Ok tt)

abbrev pub decreases-loop-flight : goal.decreases-loop-flight
decreases-loop-flight g l = l.machine.sent - l.number
