use Rattle.std.proofs.Common.{◌≤◌, ℕ, length}
use Rattle.std.specs.Prelude.{vec_len}
use Rattle.outcomes.specs.Searches.{place_at, IsSearch, Extends}
use Rattle.outcomes.proofs.Expanded.{IsLeft}
use Rattle.outcomes.proofs.breadth_first.Outcomes.expand.Given as goal

abbrev pub invariant-loop-turn : goal.invariant-loop-turn
invariant-loop-turn l =
    IsSearch l.self × Extends l.fn.self l.self × IsLeft l.fn.self.image.items (place_at l.fn.self l.state) l.self l.turns.items
    × (length l.fn.self.states.keys ≤ l.limit → length l.self.states.keys ≤ l.limit)

abbrev pub decreases-loop-turn : goal.decreases-loop-turn
decreases-loop-turn l = vec_len l.turns
