-- The line of a message in flight, which is met by its number.
use Rattle.std.proofs.Common.{◌≡◌, ◌∙◌, ℕ, Bool, false, Some, sym, ap}
use Rattle.std.specs.Option.{option_map, option_map_or}
use Rattle.network.specs.declared.net.Flight.{Flight}
use Rattle.network.specs.Flights.{first_from}
use Rattle.network.proofs.OneOrder.{from_is}
use Rattle.protocol.specs.Messages.{shown as shown_message}
use Rattle.machine.specs.States.{State, shown}
use Rattle.machine.specs.Turns.{is_held}
use Rattle.debugger.specs.LookTexts.{message_line}
use Rattle.debugger.specs.Looks.{flight_line}

-- whether the message with its number is held is whether it is
pub line_is : (sets : ℕ) (m : State) (number : ℕ) (f : Flight) (held : Bool) → Some f ≡ first_from number m.flights → held ≡ option_map_or (is_held (shown sets m)) ((shown sets m).net f.number) false
    → message_line f.message held ≡ flight_line sets m f
line_is sets m number f held first is =
    ap (message_line f.message) (is ∙ ap (λ o. option_map_or (is_held (shown sets m)) (option_map shown_message (option_map (λ g. g.message) o)) false) (from_is number m.flights f (sym first)).1)
