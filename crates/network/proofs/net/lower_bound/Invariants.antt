use Rattle.std.proofs.Common.{◌-◌}
use Rattle.network.specs.Sorted.{AreKept, AreFrom}
use Rattle.network.proofs.net.lower_bound.Given as goal

-- no message in flight has a number so far
abbrev pub invariant-loop-number : goal.invariant-loop-number
invariant-loop-number l = AreKept l.flights.slots l.next l.keys → AreFrom l.flights.slots l.next l.first → AreFrom l.flights.slots l.next l.number

abbrev pub decreases-loop-number : goal.decreases-loop-number
decreases-loop-number l = l.next - l.number
