-- The steps of a run by a schedule, moment by moment.
use Rattle.std.specs.Prelude.{ℕ, ◌≡◌, ◌⊎◌, ◌-◌, ◌++◌, zero, suc, List, [], ◌∷◌, Option, Some, None}
use Rattle.words.specs.declared.entry.Entry.{Entry}
use Rattle.words.specs.declared.entry.Step.{Step}
use Rattle.protocol.specs.Caches.{Geometry}
use Rattle.isolation.specs.Reasons.{LeadOn}
use Rattle.machine.specs.Making.{MakesStep}
use Rattle.machine.specs.States.{State, setting_of, shown}
use Rattle.machine.specs.Turns.{IsNextTurn, hart_after}
use Rattle.schedule.specs.declared.choices.Choice.{Choice}
use Rattle.schedule.specs.Courses.{Behind, Turns, Chance, Course, IsAtRest, IsChosen}
use Rattle.schedule.specs.Moments.{Moment, moment, moments, entries_of}
use Rattle.schedule.specs.Steps.{IsStepOf}

-- a step is made, and gives this entry, or none; where there is no step, nothing changes
abbrev pub Makes : Geometry → State → Option Step → Option Entry → State → Type 0
Makes g v None e w = (e ≡ None) × (w ≡ v)
Makes g v (Some step) e w = MakesStep g v step e w

-- the hart of the last core step
abbrev pub last_after : Option Step → ℕ → ℕ
last_after None after = after
last_after (Some step) after = hart_after step after

-- turns, the first after one hart's, with these moments; the last core step was then this hart's
abbrev pub TookTurns : Geometry → State → ℕ → List Moment → State → ℕ → Type 0
TookTurns g v after [] w last = (w ≡ v) × (last ≡ after)
TookTurns g v after (m ∷ ms) w last =
    (step : Step) × (e : Option Entry) × (u : State)
    × IsNextTurn (shown g.sets v) v.flights after (Some step) × Makes g v (Some step) e u × (m ≡ moment v step e u) × TookTurns g u (hart_after step after) ms w last

-- turns, the first after a hart's, until there is none or n were taken, with their moments
abbrev pub TakesTurns : Geometry → ℕ → State → ℕ → List Moment → State → Type 0
TakesTurns g zero v after ms w = (ms ≡ []) × (w ≡ v)
TakesTurns g (suc n) v after ms w =
    (IsNextTurn (shown g.sets v) v.flights after None × (ms ≡ []) × (w ≡ v))
    ⊎ ((step : Step) × (e : Option Entry) × (u : State) × (rest : List Moment)
    × IsNextTurn (shown g.sets v) v.flights after (Some step) × Makes g v (Some step) e u × TakesTurns g n u (hart_after step after) rest w × (ms ≡ moment v step e u ∷ rest))

-- n choices, each of a step that is enabled, or fewer where the machine is at rest behind them
abbrev pub TakesChosen : Geometry → List Choice → ℕ → State → ℕ → List Moment → State → Type 0
TakesChosen g [] n v after ms w = (ms ≡ []) × (w ≡ v) × ((n ≡ 0) ⊎ IsAtRest g v)
TakesChosen g (c ∷ cs) zero v after ms w = ⊥
TakesChosen g (c ∷ cs) (suc n) v after ms w =
    (step : Step) × (e : Option Entry) × (u : State) × (rest : List Moment)
    × IsChosen g v c step × Makes g v (Some step) e u × TakesChosen g cs n u (hart_after step after) rest w × (ms ≡ moment v step e u ∷ rest)

-- what comes behind a list: turns, or these choices
abbrev pub TakesBehind : Option (List Choice) → Geometry → ℕ → State → ℕ → List Moment → State → Type 0
TakesBehind None g n v after ms w = TakesTurns g n v after ms w
TakesBehind (Some chosen) g n v after ms w = TakesChosen g chosen n v after ms w

abbrev pub IsNothing : Option (List Choice) → Type 0
IsNothing None = Unit {0}
IsNothing (Some chosen) = chosen ≡ []

-- n steps, where the last core step was a hart's: each choice of a list in order is made, enabled or not; and behind the last one come turns, or these choices
abbrev pub FollowsThen : Option (List Choice) → Geometry → List Choice → ℕ → State → ℕ → List Moment → State → Type 0
FollowsThen behind g [] n v after ms w = TakesBehind behind g n v after ms w
FollowsThen behind g (c ∷ cs) zero v after ms w = (ms ≡ []) × (w ≡ v) × IsNothing behind
FollowsThen behind g (c ∷ cs) (suc n) v after ms w =
    (step : Option Step) × (e : Option Entry) × (u : State) × (rest : List Moment)
    × IsStepOf g.sets v after c step × Makes g v step e u × FollowsThen behind g cs n u (last_after step after) rest w × (ms ≡ moments v step e u ++ rest)

-- the same with turns behind the list
abbrev pub Follows : Geometry → List Choice → ℕ → State → ℕ → List Moment → State → Type 0
Follows g choices n v after ms w = FollowsThen None g choices n v after ms w

-- the same with turns, or with what chance chose: these choices where they were kept, and else some
abbrev pub Goes : Behind → Geometry → List Choice → ℕ → State → ℕ → List Moment → State → Type 0
Goes Turns g choices n v after ms w = Follows g choices n v after ms w
Goes (Chance (Some chosen)) g choices n v after ms w = FollowsThen (Some chosen) g choices n v after ms w
Goes (Chance None) g choices n v after ms w = (chosen : List Choice) × FollowsThen (Some chosen) g choices n v after ms w

-- n steps on a course lead from one machine to another, where the highest hart counts as that of the last core step. These are their moments, whose
-- entries lead on, with their reasons
abbrev pub Plays : Geometry → Course → ℕ → State → List Moment → State → Type 0
Plays g course n v ms w = Goes course.behind g course.choices n v ((setting_of v).count - 1) ms w × LeadOn g (shown g.sets v) (entries_of ms) (shown g.sets w)
