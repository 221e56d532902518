use Rattle.std.proofs.Common.{◌<◌, ℕ}
use Rattle.network.proofs.Under.{IsHeld}
use Rattle.network.proofs.net.greatest_free.Given as goal

-- each number above is in flight
abbrev pub invariant-loop-number : goal.invariant-loop-number
invariant-loop-number l = record { below : l.number < 18446744073709551615; held : (other : ℕ) → l.number < other → other < 18446744073709551615 → IsHeld l.flights.slots other }

abbrev pub decreases-loop-number : goal.decreases-loop-number
decreases-loop-number l = l.number
