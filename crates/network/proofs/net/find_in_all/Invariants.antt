use Rattle.std.proofs.Common.{◌≡◌, ◌≢◌, ◌<◌, ℕ, Some, None, get_or}
use Rattle.network.specs.declared.net.Flight.{Flight}
use Rattle.network.proofs.net.find_in_all.Given as goal

-- no key so far has the number
abbrev pub invariant-loop-key : goal.invariant-loop-key
invariant-loop-key l = (key : ℕ) (f : Flight) → key < l.key → get_or l.flights.slots key None ≡ Some f → f.number ≢ l.number
