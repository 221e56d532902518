use Rattle.std.proofs.Common.{◌≡◌, ◌≤◌, ◌+◌, ℕ, Some, arith, subst}
use Rattle.network.specs.declared.net.Flight.{Flight}
use Rattle.network.specs.Flights.{Flights, flight_at}
use Rattle.network.specs.Sorted.{in_order}
use Rattle.network.proofs.Sorted.{found}
use Rattle.network.proofs.net.Net.is_recent.Goals as goal

-- each message in flight has a number from the first on
pub returns : goal.returns
returns c known =
    let is = c.is_known.ensures.0 known in
    let recent : (number : ℕ) (f : Flight) → flight_at (in_order c.self.inside.flights.slots) number ≡ Some f → c.self.inside.next ≤ number + 64 = λ number f at.
    let here = found c.self.inside.flights.slots number f at in
    omega (arith, here.2, is.1, c.self.invariant.2.above is.0 here.0 f here.1) in
    subst (λ (v : Flights). (number : ℕ) (f : Flight) → flight_at v.flights number ≡ Some f → v.next ≤ number + 64) c.self.view_is recent
