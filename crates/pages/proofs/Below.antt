-- Numbers that no message in flight has.
use Rattle.std.proofs.Common.{◌≡◌, ◌≤◌, ℕ, arith, Option, Some, None, List, refl, ap}
use Rattle.std.specs.Option.{option_map}
use Rattle.network.specs.declared.net.Flight.{Flight}
use Rattle.network.specs.Flights.{AreNumbered, flight_at}
use Rattle.network.proofs.OneOrder.{number_is, past, past_all}
use Rattle.protocol.specs.Messages.{shown}
use Rattle.protocol.specs.Network.{LiesBelow}
use Rattle.machine.specs.Mail.{in_flight}

none_at : (flights : List Flight) (next number : ℕ) → AreNumbered flights next → next ≤ number → (o : Option Flight) → flight_at flights number ≡ o → o ≡ None
none_at flights next number numbered high None at = refl
none_at flights next number numbered high (Some f) at =
    let low = numbered number f at in
    let is = number_is flights number f at in
    absurd (omega (arith, high, low, is))

-- all have lower numbers than the next
pub below_next : (flights : List Flight) (next : ℕ) → AreNumbered flights next → LiesBelow next (in_flight flights)
below_next flights next numbered = λ number high. ap (λ o. option_map shown (option_map (λ f. f.message) o)) (none_at flights next number numbered high (flight_at flights number) refl)

pub all_below : (flights : List Flight) → LiesBelow (past flights) (in_flight flights)
all_below flights = λ number high. ap (λ o. option_map shown (option_map (λ f. f.message) o)) (past_all flights number high)
