use Rattle.std.proofs.Common.{◌<◌, ℕ}
use Rattle.isolation.specs.Moves.{IsLocal}
use Rattle.outcomes.specs.Standings.{flat_of}
use Rattle.outcomes.proofs.standing.Standing.first_local.Given as goal

abbrev pub invariant-loop-i : goal.invariant-loop-i
invariant-loop-i l = (k : ℕ) → k < l.i → IsLocal (flat_of l.self) k → ⊥
