use Rattle.std.proofs.Common.{◌≡◌, ◌≤◌, ◌-◌, ℕ}
use Rattle.std.specs.Prelude.{if◌then◌else◌}
use Rattle.words.specs.Harts.{names}
use Rattle.words.specs.Limits.{most_harts}
use Rattle.machine.specs.States.{shown}
use Rattle.watch.proofs.Freshness.{noted}
use Rattle.watch.proofs.served.note_all_fresh.Given as goal

-- the harts so far are noted
abbrev pub invariant-loop-id : goal.invariant-loop-id
invariant-loop-id g l =
    (l.from ≤ most_harts) × ((i : ℕ) → names l.fresh i ≡ (if noted l.service.requester l.service.asked l.from i then ((shown g.row.SETS l.machine).harts i).fresh else names l.fn.fresh i))

abbrev pub decreases-loop-id : goal.decreases-loop-id
decreases-loop-id g l = most_harts - l.from
