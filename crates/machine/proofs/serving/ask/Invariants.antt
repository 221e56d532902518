use Rattle.std.proofs.Common.{◌≡◌, ◌≤◌, ◌-◌, length, map, ℕ, List, nat_lt}
use Rattle.std.specs.Prelude.{◌&&◌, count_by}
use Rattle.words.specs.Harts.{names}
use Rattle.conflict.specs.Requests.{shown_granted}
use Rattle.protocol.specs.Directory.{forwards}
use Rattle.hart.specs.declared.reply.ForwardAnswer.{ForwardAnswer}
use Rattle.machine.specs.Serving.{Answered, HearsReplies, forwards_to, is_asked, refuses}
use Rattle.machine.proofs.serving.ask.Given as goal

-- the harts so far have answered
abbrev pub invariant-loop-to : goal.invariant-loop-to
invariant-loop-to g l =
    (length l.seats ≡ length l.fn.seats) × (l.from ≤ l.harts) × (l.number ≤ l.from) × (l.refusals ≤ l.number)
    × ((xs : List (ℕ × ForwardAnswer)) × (forwards l.from (names l.granted.expect) l.request.block l.request.kind l.request.requester l.request.stamp ≡ forwards_to l.request xs)
    × (l.number ≡ length xs) × (l.refusals ≡ count_by refuses (map (λ x. x.1) xs)) × ((i : ℕ) → is_asked xs i ≡ names l.asked i && nat_lt i l.from)
    × Answered g.row.SETS l.request (shown_granted l.granted) xs l.fn.seats l.seats l.settled
    × HearsReplies g.L.Listener.hears l.request.requester l.request.block l.fn.listener xs l.listener)

abbrev pub decreases-loop-to : goal.decreases-loop-to
decreases-loop-to g l = l.harts - l.from
