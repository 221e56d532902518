-- Where no message has a number nothing is enabled.
use Rattle.std.proofs.Common.{◌≡◌, ℕ, List, [], ◌∷◌, None, false, length, refl, sym, ap, arith}
use Rattle.std.specs.Option.{option_map, option_map_or}
use Rattle.words.specs.declared.entry.Step.TheVariants.{Deliver}
use Rattle.network.specs.declared.net.Flight.{Flight}
use Rattle.network.specs.Flights.{flight_at}
use Rattle.protocol.specs.Messages.{receiver_of, shown as shown_message}
use Rattle.machine.specs.States.{State, geometry, shown}
use Rattle.machine.specs.Watch.{arrives, IsEnabledByRule}

pub nothing_numbered : (sets ways : ℕ) (v : State) (number : ℕ) → flight_at v.flights number ≡ None → IsEnabledByRule (geometry sets ways) v (Deliver number) false
nothing_numbered sets ways v number none =
    (tt {0}, sym (ap (λ o. option_map_or (λ m. arrives (shown sets v) m (receiver_of m)) (option_map shown_message (option_map (λ f. f.message) o)) false) none))

-- where no message is in flight none has a number
none_there : (flights : List Flight) (number : ℕ) → length flights ≡ 0 → flight_at flights number ≡ None
none_there [] number none = refl
none_there (f ∷ fs) number none = absurd (omega (arith, none))

pub nothing_in_flight : (sets ways : ℕ) (v : State) (number : ℕ) → length v.flights ≡ 0 → IsEnabledByRule (geometry sets ways) v (Deliver number) false
nothing_in_flight sets ways v number none = nothing_numbered sets ways v number (none_there v.flights number none)
