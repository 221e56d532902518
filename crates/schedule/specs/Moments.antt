-- What a step did.
use Rattle.std.specs.Prelude.{ℕ, List, [], ◌∷◌, Option, Some, None, option_to_list}
use Rattle.std.specs.List.{flat_map}
use Rattle.words.specs.declared.entry.Entry.{Entry}
use Rattle.words.specs.declared.entry.Step.{Step}
use Rattle.words.specs.declared.entry.Step.TheVariants.{Deliver}
use Rattle.network.specs.declared.net.Flight.{Flight}
use Rattle.network.specs.Flights.{flight_at}
use Rattle.machine.specs.States.{State}

-- the message that a step delivers, if one is in flight with its number
abbrev pub arrival_of : State → Step → Option Flight
arrival_of v (Deliver number) = flight_at v.flights number
arrival_of v other = None

-- how many messages were sent before a step; the step; the message that it delivered, if one was in flight; its entry, if it gave one; and the machine after it
pub record Moment : Type 0 where
  pub sent : ℕ
  pub step : Step
  pub arrival : Option Flight
  pub entry : Option Entry
  pub after : State

abbrev pub moment : State → Step → Option Entry → State → Moment
moment v step e w = record { sent = v.sent; step = step; arrival = arrival_of v step; entry = e; after = w }

-- the moment of a step, if there is one
abbrev pub moments : State → Option Step → Option Entry → State → List Moment
moments v None e w = []
moments v (Some step) e w = moment v step e w ∷ []

-- the entries that were given, in order
abbrev pub entries_of : List Moment → List Entry
entries_of ms = flat_map (λ m. option_to_list m.entry) ms
