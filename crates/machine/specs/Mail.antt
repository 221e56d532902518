-- The messages in flight, each with its number, and as the rows of the protocol speak of them.
use Rattle.std.specs.Prelude.{ℕ, ◌≡◌, List, [], ◌∷◌, Option, Some}
use Rattle.std.specs.Option.{option_map}
use Rattle.flat.specs.Bytes.{put_at}
use Rattle.network.specs.declared.net.Flight.{Flight}
use Rattle.network.specs.Flights.{flight_at, message_at, number_after, IsNextNumber}
use Rattle.protocol.specs.Messages.{Message, shown}
use Rattle.protocol.specs.Network.{Network}

-- by number
abbrev pub in_flight : List Flight → Network
in_flight flights number = option_map shown (message_at flights number)

-- the message with each number
abbrev pub Mail : Type 0
Mail = ℕ → Option Flight

abbrev pub mail_of : List Flight → Mail
mail_of flights number = flight_at flights number

-- the messages alone
abbrev pub without_numbers : Mail → Network
without_numbers mail number = option_map shown (option_map (λ f. f.message) (mail number))

-- each message in turn is sent with the next number: this one before, and that one then
abbrev pub SendsOn : Mail → ℕ → List Message → Mail → ℕ → Type 0
SendsOn old n [] new next = (new ≡ old) × (next ≡ n)
SendsOn old n (m ∷ ms) new next =
    (number : ℕ) × (f : Flight) × IsNextNumber old n number × (shown f.message ≡ m) × (f.number ≡ number) × SendsOn (put_at number (Some f) old) (number_after n) ms new next

-- some messages are left of those in flight, each with its number: just those that this network has
pub record IsLeft (before : Mail) (net : Network) (left : Mail) : Type 0 where
  pub stays : (number : ℕ) (f : Flight) → left number ≡ Some f → before number ≡ Some f
  pub messages : without_numbers left ≡ net
