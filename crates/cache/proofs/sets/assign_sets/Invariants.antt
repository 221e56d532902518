use Rattle.std.proofs.Common.{◌≡◌, ◌<◌, ◌≤◌, ◌-◌, ℕ, [], get_or, length}
use Rattle.cache.proofs.sets.assign_sets.Given as goal

abbrev pub invariant-loop-set : goal.invariant-loop-set
invariant-loop-set g l =
    (length l.sets ≡ length l.initial.sets)
    × ((s : ℕ) → s < l.set → get_or l.sets s [] ≡ get_or l.others s [])
    × ((s : ℕ) → l.set ≤ s → get_or l.sets s [] ≡ get_or l.initial.sets s [])

abbrev pub decreases-loop-set : goal.decreases-loop-set
decreases-loop-set g l = length l.others - l.set
