use Rattle.std.proofs.Common.{◌-◌, Some, None, cond}
use Rattle.protocol.specs.Values.{is_done_by}
use Rattle.machine.specs.Mail.{in_flight}
use Rattle.machine.proofs.Scans.{NoneBelow}
use Rattle.machine.proofs.flights.has_done.Given as goal

abbrev pub invariant-loop-flight : goal.invariant-loop-flight
invariant-loop-flight l = NoneBelow (in_flight l.net.flights) (λ m. cond (is_done_by l.requester l.block m) (Some m) None) l.number

abbrev pub decreases-loop-flight : goal.decreases-loop-flight
decreases-loop-flight l = l.net.next - l.number
