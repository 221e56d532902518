use Rattle.std.proofs.Common.{◌≤◌, ◌+◌, ◌-◌}
use Rattle.words.specs.Harts.{names}
use Rattle.protocol.specs.Directory.{forwards}
use Rattle.machine.specs.Mail.{SendsOn, mail_of}
use Rattle.machine.proofs.mail.forward.Given as goal

-- the request is forwarded to the harts so far
abbrev pub invariant-loop-to : goal.invariant-loop-to
invariant-loop-to l =
    (l.harts ≤ l.net.room + l.from)
    × SendsOn (mail_of l.fn.net.flights) l.fn.net.next (forwards l.from (names l.expect) l.request.block l.request.kind l.request.requester l.request.stamp) (mail_of l.net.flights) l.net.next
    × (l.from ≤ l.harts)

abbrev pub decreases-loop-to : goal.decreases-loop-to
decreases-loop-to l = l.harts - l.from
