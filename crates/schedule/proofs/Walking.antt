-- Messages in flight are met in the order of their numbers.
use Rattle.std.proofs.Common.{◌≡◌, ◌<◌, ℕ, Option, Some, None, List, Bor, inl, inr, refl, sym}
use Rattle.std.specs.Option.{option_map}
use Rattle.std.proofs.lemmas.Bool.{cases_lt}
use Rattle.network.specs.declared.net.Flight.{Flight}
use Rattle.network.specs.Flights.{AreInOrder, first_from, flight_at}
use Rattle.network.proofs.OneOrder.{none_between, none_from}

-- it is over where no next one is found
pub over : (number : ℕ) (flights : List Flight) (o : Option (Bor Flight)) → option_map (λ b. b.now) o ≡ first_from number flights → ((f : Bor Flight) → o ≡ Some f → ⊥) → first_from number flights ≡ None
over number flights None first none = sym first
over number flights (Some f) first none = absurd (none f refl)

-- what holds of each number below one, and of those that no message has
module _ (P : ℕ → Type 0) (flights : List Flight) (number : ℕ) (free : (k : ℕ) → flight_at flights k ≡ None → P k) (before : (k : ℕ) → k < number → P k) where
  -- holds up to that of the next message
  pub walked_to : (f : Flight) → AreInOrder flights → first_from number flights ≡ Some f → (k : ℕ) → k < f.number → P k
  walked_to f order is k less = elim (cases_lt k number) [ inl l ↦ before k l | inr past ↦ free k (none_between number flights f order is k past less) ]

  -- and of all where there is none
  pub walked_all : first_from number flights ≡ None → (k : ℕ) → P k
  walked_all is k = elim (cases_lt k number) [ inl l ↦ before k l | inr past ↦ free k (none_from number flights is k past) ]
