use Rattle.std.proofs.Common.{◌-◌}
use Rattle.protocol.specs.Values.{ack_content}
use Rattle.machine.specs.Mail.{in_flight}
use Rattle.machine.proofs.Scans.{NoneBelow}
use Rattle.machine.proofs.flights.acknowledged.Given as goal

abbrev pub invariant-loop-flight : goal.invariant-loop-flight
invariant-loop-flight l = NoneBelow (in_flight l.net.flights) (ack_content l.block) l.number

abbrev pub decreases-loop-flight : goal.decreases-loop-flight
decreases-loop-flight l = l.net.next - l.number
