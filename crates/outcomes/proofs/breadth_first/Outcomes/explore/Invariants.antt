use Rattle.std.proofs.Common.{◌≤◌, ◌<◌, ℕ, length}
use Rattle.outcomes.specs.Searches.{IsSearch, Extends, IsExpanded}
use Rattle.outcomes.proofs.breadth_first.Outcomes.explore.Given as goal

-- the states below place are expanded
abbrev pub invariant-loop-place : goal.invariant-loop-place
invariant-loop-place g l =
    IsSearch l.self × Extends l.fn.self l.self × ((k : ℕ) → k < l.place → IsExpanded l.self k)
    × (length l.fn.self.states.keys ≤ l.limit → length l.self.states.keys ≤ l.limit)
