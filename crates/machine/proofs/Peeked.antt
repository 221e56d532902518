-- The message that is looked at by a number is in flight with it.
use Rattle.std.proofs.Common.{◌≡◌, ℕ, List, Some, sym, ap, ◌∙◌}
use Rattle.std.specs.Option.{option_map}
use Rattle.network.specs.Flights.{message_at}
use Rattle.words.specs.declared.message.Message.{Message}
use Rattle.network.specs.declared.net.Flight.{Flight}
use Rattle.protocol.specs.Messages.{shown}
use Rattle.machine.specs.Mail.{in_flight}

pub peeked : (flights : List Flight) (number : ℕ) (found m : Message) → Some found ≡ message_at flights number → found ≡ m → in_flight flights number ≡ Some (shown m)
peeked flights number found m here is = ap (option_map shown) (sym here) ∙ ap (λ (x : Message). Some (shown x)) is
