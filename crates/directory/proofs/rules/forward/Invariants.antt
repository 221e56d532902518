use Rattle.std.proofs.Common.{◌≡◌, ◌<◌, ◌≤◌, ◌+◌, ◌-◌, ◌++◌}
use Rattle.arrayvec.specs.ArrayVec.{array_vec_len}
use Rattle.words.specs.Harts.{names}
use Rattle.protocol.specs.Directory.{forwards}
use Rattle.directory.specs.Sends.{messages_of}
use Rattle.directory.proofs.rules.forward.Given as goal

-- at most one message for each hart so far, and none for the requester
abbrev pub invariant-loop-to : goal.invariant-loop-to
invariant-loop-to l =
    (messages_of l.sends ≡ messages_of l.fn.sends ++ forwards l.from (names l.expect) l.request.block l.request.kind l.request.requester l.request.stamp)
    × (array_vec_len l.sends ≤ l.from + 1)
    × (l.request.requester < l.from → array_vec_len l.sends ≤ l.from)
    × (l.from ≤ l.harts)

abbrev pub decreases-loop-to : goal.decreases-loop-to
decreases-loop-to l = l.harts - l.from
