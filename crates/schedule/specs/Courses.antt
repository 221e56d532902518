-- What chooses the steps of a run: a list, and after it the machine's own turns, or chance.
use Rattle.std.specs.Prelude.{ℕ, ◌≡◌, ◌<◌, ◌++◌, true, false, List, [], ◌∷◌, Option, Some, None}
use Rattle.words.specs.declared.entry.Step.{Step}
use Rattle.words.specs.declared.entry.Step.TheVariants.{Core, Deliver}
use Rattle.protocol.specs.Caches.{Geometry}
use Rattle.machine.specs.States.{State, setting_of, shown}
use Rattle.machine.specs.Turns.{IsNextTurn}
use Rattle.machine.specs.Watch.{IsEnabledByRule}
use Rattle.schedule.specs.declared.choices.Choice.{Choice}
use Rattle.schedule.specs.Steps.{IsChoiceOf, IsWithin}

-- what comes after a list: turns; or what chance chooses, and these are its choices where they are kept
pub data Behind : Type 0 where
  Turns : Behind
  Chance : (kept : Option (List Choice)) → Behind

-- the choices of a list, and what comes after them
pub record Course : Type 0 where
  pub choices : List Choice
  pub behind : Behind

abbrev pub course : List Choice → Behind → Course
course choices behind = record { choices = choices; behind = behind }

-- a choice is this step, whosever the last core step was; the step is enabled, with the victims that the caches name, and what the choice names is there
pub record IsChosen (g : Geometry) (v : State) (c : Choice) (step : Step) : Type 0 where
  pub is : IsChoiceOf g.sets v step c
  pub within : IsWithin (setting_of v) c
  pub enabled : IsEnabledByRule g v step true

-- no hart's core has a step to make, with those victims, and no message has where to arrive
pub record IsAtRest (g : Geometry) (v : State) : Type 0 where
  pub cores : (i : ℕ) → i < (setting_of v).count → IsEnabledByRule g v (Core i) false
  pub messages : (number : ℕ) → IsEnabledByRule g v (Deliver number) false

-- after a list nothing was chosen yet
abbrev pub IsUnbegun : Behind → Type 0
IsUnbegun Turns = Unit {0}
IsUnbegun (Chance None) = Unit {0}
IsUnbegun (Chance (Some chosen)) = chosen ≡ []

-- it is told: turns, or choices of chance that were kept
abbrev pub IsTold : Behind → Type 0
IsTold Turns = Unit {0}
IsTold (Chance None) = ⊥
IsTold (Chance (Some chosen)) = Unit {0}

-- the same, with the choices of chance forgotten
abbrev pub forgotten : Behind → Behind
forgotten Turns = Turns
forgotten (Chance kept) = Chance None

-- after a list this step comes next, where the last core step was a hart's, and leaves what comes after the list so
abbrev pub IsNextOf : Geometry → State → ℕ → Behind → Step → Behind → Type 0
IsNextOf g v after Turns step x = IsNextTurn (shown g.sets v) v.flights after (Some step) × (x ≡ Turns)
IsNextOf g v after (Chance None) step x = ((c : Choice) × IsChosen g v c step) × (x ≡ Chance None)
IsNextOf g v after (Chance (Some chosen)) step x = (c : Choice) × IsChosen g v c step × (x ≡ Chance (Some (chosen ++ c ∷ [])))

-- nothing does
abbrev pub IsNoneNext : Geometry → State → ℕ → Behind → Type 0
IsNoneNext g v after Turns = IsNextTurn (shown g.sets v) v.flights after None
IsNoneNext g v after (Chance kept) = IsAtRest g v
