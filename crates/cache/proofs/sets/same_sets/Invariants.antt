use Rattle.std.proofs.Common.{◌≡◌, ◌<◌, ◌-◌, ℕ, [], get_or, length, true}
use Rattle.cache.specs.Occupied.{may_have}
use Rattle.cache.proofs.sets.same_sets.Given as goal

-- the set that is next may have a line
abbrev pub invariant-loop-set : goal.invariant-loop-set
invariant-loop-set g l =
    ((s : ℕ) → s < l.set → may_have l.occupied s ≡ true → get_or l.sets s [] ≡ get_or l.others s [])
    × (l.set < length l.sets → may_have l.occupied l.set ≡ true)

abbrev pub decreases-loop-set : goal.decreases-loop-set
decreases-loop-set g l = length l.sets - l.set
