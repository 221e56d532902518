-- What a file that is being made has taken, handed on and keeps back.
use Rattle.std.specs.Prelude.{ℕ, List, [], Option, None}
use Rattle.words.specs.Sinks.{SinkState}
use Rattle.requests.specs.declared.page.Sheet.{Sheet}
use Rattle.requests.specs.declared.page.Sheet.TheVariants.{Nowhere, Made}

-- what a sink tells that takes all, and is nowhere
abbrev pub nowhere : SinkState
nowhere = record { taken = None; failed = 0 }

abbrev pub state_of : {P : Type 0} → (P → SinkState) → Sheet P → SinkState
state_of state Nowhere = nowhere
state_of state (Made page) = state page

abbrev pub handed_of : {P : Type 0} → (P → Option (List ℕ)) → Sheet P → Option (List ℕ)
handed_of handed Nowhere = None
handed_of handed (Made page) = handed page

abbrev pub kept_of : {P : Type 0} → (P → List ℕ) → Sheet P → List ℕ
kept_of kept Nowhere = []
kept_of kept (Made page) = kept page
