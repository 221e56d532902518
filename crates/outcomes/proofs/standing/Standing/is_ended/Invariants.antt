use Rattle.std.proofs.Common.{◌≡◌, ◌≢◌, ◌<◌, ℕ}
use Rattle.words.specs.declared.cause.Status.TheVariants.{Running}
use Rattle.outcomes.specs.Standings.{flat_of}
use Rattle.outcomes.proofs.standing.Standing.is_ended.Given as goal

abbrev pub invariant-loop-i : goal.invariant-loop-i
invariant-loop-i l = (k : ℕ) → k < l.i → ((flat_of l.self).hart k).status ≢ Running
