use Rattle.std.proofs.Common.{◌≡◌, ◌≢◌, ◌<◌, ℕ, None}
use Rattle.outcomes.specs.Standings.{flat_of}
use Rattle.outcomes.proofs.standing.Standing.is_a_third_inside.Given as goal

abbrev pub invariant-loop-k : goal.invariant-loop-k
invariant-loop-k l = (k : ℕ) → k < l.k → k ≢ l.i → k ≢ l.j → ((flat_of l.self).hart k).tx ≡ None
