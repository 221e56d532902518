use Rattle.std.proofs.Common.{◌≡◌, ◌≢◌, ◌<◌, ℕ, false}
use Rattle.std.specs.Prelude.{◌||◌, ◌&&◌}
use Rattle.flat.specs.State.{has_read, has_written}
use Rattle.outcomes.specs.Standings.{flat_of}
use Rattle.outcomes.proofs.standing.Standing.is_refused.Given as goal

abbrev pub invariant-loop-j : goal.invariant-loop-j
invariant-loop-j l = (k : ℕ) → k < l.j → k ≢ l.i → (has_written ((flat_of l.self).hart k).tx l.block || (l.stores && has_read ((flat_of l.self).hart k).tx l.block)) ≡ false
