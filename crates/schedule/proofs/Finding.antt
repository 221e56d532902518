-- A message is looked for by its name, in the order of sending.
use Rattle.std.proofs.Common.{◌≡◌, ◌≢◌, ◌<◌, ◌+◌, ◌∙◌, ℕ, Some, None, sym, ap, below_more}
use Rattle.std.specs.Option.{option_map}
use Rattle.std.proofs.lemmas.Option.{none-some, same_Some}
use Rattle.network.specs.declared.net.Flight.{Flight}
use Rattle.network.specs.Flights.{AreInOrder, first_from, flight_at}
use Rattle.protocol.specs.Messages.{shown as shown_message}
use Rattle.protocol.specs.Machine.{Machine}
use Rattle.network.proofs.OneOrder.{from_is}
use Rattle.machine.specs.States.{State, shown}
use Rattle.schedule.specs.declared.choices.Name.{Name}
use Rattle.schedule.specs.Steps.{name_of, FliesAs}
use Rattle.schedule.proofs.Walking.{walked_to, walked_all}

-- no message of the name has a number below this one
abbrev pub NoneBelow : Machine → Name → ℕ → Type 0
NoneBelow w n end = (number : ℕ) → number < end → FliesAs w n number → ⊥

module _ (sets : ℕ) (v : State) (n : Name) where
  nothing : (number : ℕ) → flight_at v.flights number ≡ None → FliesAs (shown sets v) n number → ⊥
  nothing number none (m, there, named) = none-some m (sym (ap (λ o. option_map shown_message (option_map (λ f. f.message) o)) none) ∙ there)

  module _ (number : ℕ) (below : NoneBelow (shown sets v) n number) where
    -- the next message has another name
    pub not_named : (f : Flight) → AreInOrder v.flights → first_from number v.flights ≡ Some f → name_of (shown_message f.message) ≢ n → NoneBelow (shown sets v) n (f.number + 1)
    not_named f order is other = below_more (λ k. FliesAs (shown sets v) n k → ⊥) f.number (walked_to (λ k. FliesAs (shown sets v) n k → ⊥) v.flights number nothing below f order is) (λ (m, there, named).
        other (ap name_of (same_Some (shown_message f.message) m (sym (ap (λ o. option_map shown_message (option_map (λ g. g.message) o)) (from_is number v.flights f is).1) ∙ there)) ∙ named))

    -- there is no further one
    pub none_named : first_from number v.flights ≡ None → (k : ℕ) → FliesAs (shown sets v) n k → ⊥
    none_named is = walked_all (λ k. FliesAs (shown sets v) n k → ⊥) v.flights number nothing below is
