-- What the line of a moment tells is all that its step changed.
use Rattle.std.specs.Prelude.{ℕ, ◌≡◌, ◌≢◌, ◌≤◌, ◌⊎◌, Option, Some}
use Rattle.std.specs.Option.{option_map}
use Rattle.words.specs.declared.entry.Step.{Step}
use Rattle.network.specs.declared.net.Flight.{Flight}
use Rattle.network.specs.Flights.{flight_at}
use Rattle.protocol.specs.Messages.{block_of, shown as shown_message}
use Rattle.machine.specs.Making.{AllKeepWays}
use Rattle.machine.specs.States.{State, shown}
use Rattle.schedule.specs.Moments.{arrival_of}
use Rattle.pages.specs.Flights.{first_told}
use Rattle.pages.specs.Moments.{actor_of}

-- the block whose entry a line tells: that of the message that arrived
abbrev pub block_told : Option Flight → Option ℕ
block_told arrival = option_map (λ f. block_of (shown_message f.message)) arrival

-- each hart but the one that the line tells of is as it was, and so is each entry of the directory; and a message in flight after the step was in flight before, or has a number with which
-- its text is told. A line of a cache stands where it stood, or in the lowest way of its set that was free: so its way follows from the lines that are told, step by step
pub record ChangesWhatIsTold (sets : ℕ) (v : State) (step : Step) (w : State) : Type 0 where
  pub harts : (i : ℕ) → actor_of step (arrival_of v step) ≢ Some i → (shown sets w).harts i ≡ (shown sets v).harts i
  pub entries : (b : ℕ) → block_told (arrival_of v step) ≢ Some b → (shown sets w).entries b ≡ (shown sets v).entries b
  pub flights : (number : ℕ) (f : Flight) → flight_at w.flights number ≡ Some f → (flight_at v.flights number ≡ Some f) ⊎ (first_told v.sent w.sent ≤ f.number)
  pub ways : AllKeepWays sets v w
