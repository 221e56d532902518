use Rattle.std.proofs.Common.{◌≡◌, ◌≢◌, ◌<◌, ℕ, None}
use Rattle.outcomes.specs.Standings.{flat_of}
use Rattle.outcomes.proofs.standing.Standing.is_beside.Given as goal

abbrev pub invariant-loop-j : goal.invariant-loop-j
invariant-loop-j l = (k : ℕ) → k < l.j → k ≢ l.i → ((flat_of l.self).hart k).tx ≡ None
