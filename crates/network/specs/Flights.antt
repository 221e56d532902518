-- The messages in flight, in the order in which they were sent, each known by its number.
use Rattle.std.specs.Prelude.{ℕ, ◌≡◌, ◌≢◌, ◌<◌, ◌≤◌, ◌+◌, ◌⊎◌, ◌==◌, Bool, true, false, min, cond, nat_le, List, [], ◌∷◌, Option, Some, None, IsSome, ⊤}
use Rattle.std.specs.Option.{option_map}
use Rattle.words.specs.declared.message.Message.{Message}
use Rattle.network.specs.declared.net.Flight.{Flight}

-- the messages in flight; the number that the next message gets; how many messages can be sent with no further memory
pub record Flights : Type 0 where
  pub flights : List Flight
  pub next : ℕ
  pub room : ℕ

-- what is in flight with a number
abbrev pub flight_at : List Flight → ℕ → Option Flight
flight_at [] number = None
flight_at (f ∷ fs) number = cond (f.number == number) (Some f) (flight_at fs number)

abbrev pub message_at : List Flight → ℕ → Option Message
message_at flights number = option_map (λ f. f.message) (flight_at flights number)

-- without the one that has this number
abbrev pub without : ℕ → (ℕ → Option Flight) → ℕ → Option Flight
without number flights other = cond (other == number) None (flights other)

-- the first that has this number or a greater one
abbrev pub first_from : ℕ → List Flight → Option Flight
first_from number [] = None
first_from number (f ∷ fs) = cond (nat_le number f.number) (Some f) (first_from number fs)

-- each has a lower number than those after it
abbrev pub AreInOrder : List Flight → Type 0
AreInOrder [] = ⊤
AreInOrder (f ∷ fs) = ((number : ℕ) (g : Flight) → flight_at fs number ≡ Some g → f.number < g.number) × AreInOrder fs

-- each has a number below the next
abbrev pub AreNumbered : List Flight → ℕ → Type 0
AreNumbered flights next = (number : ℕ) (f : Flight) → flight_at flights number ≡ Some f → f.number < next

-- how the next number goes on; it ends at the greatest u64
abbrev pub number_after : ℕ → ℕ
number_after next = min (next + 1) 18446744073709551615

-- the number that a message gets beside those that are in flight: the next, and once that has come to its end the greatest below it that none of them has
pub record IsNextNumber (flights : ℕ → Option Flight) (next number : ℕ) : Type 0 where
  pub below : number < number_after next
  pub free : flights number ≡ None
  pub greatest : (other : ℕ) → number < other → other < number_after next → IsSome (flights other)

-- a message with the number is in flight, and no other is
abbrev pub IsAlone : List Flight → ℕ → Type 0
IsAlone flights number = (f : Flight) × (flights ≡ f ∷ []) × (f.number ≡ number)

-- no message in flight passes a test
abbrev pub NonePasses : (Message → Bool → Type 0) → List Flight → Type 0
NonePasses answers flights = (number : ℕ) (f : Flight) → flight_at flights number ≡ Some f → answers f.message false

-- the message with the number passes a test, and every other that does was sent later
pub record IsOldest (answers : Message → Bool → Type 0) (flights : List Flight) (number : ℕ) : Type 0 where
  pub flight : Flight
  pub here : flight_at flights number ≡ Some flight
  pub passes : answers flight.message true
  pub first : (other : ℕ) (g : Flight) → flight_at flights other ≡ Some g → answers g.message false ⊎ (number ≤ other)

-- the message with the number is the last that was sent, and every other in flight was sent before
pub record IsNewest (flights : List Flight) (next number : ℕ) : Type 0 where
  pub flight : Flight
  pub here : flight_at flights number ≡ Some flight
  pub last : number + 1 ≡ next
  pub others : (other : ℕ) (g : Flight) → other ≢ number → flight_at flights other ≡ Some g → other < number

-- the last message that was sent has arrived
abbrev pub HasNewestArrived : List Flight → ℕ → Type 0
HasNewestArrived flights next = (number : ℕ) (f : Flight) → flight_at flights number ≡ Some f → number + 1 < next
