-- A run of which an observer sees each moment.
use Rattle.std.specs.Prelude.{ℕ, ◌≡◌, ◌<◌, ◌≤◌, ◌+◌, ◌⊎◌, ◌++◌, List, [], ◌∷◌, length, Option, Some, None}
use Rattle.std.specs.List.{flat_map, FoldsTo}
use Rattle.words.specs.declared.entry.Entry.{Entry}
use Rattle.words.specs.declared.entry.Step.{Step}
use Rattle.protocol.specs.Caches.{Geometry}
use Rattle.machine.specs.States.{State}
use Rattle.schedule.specs.Courses.{Behind, Turns, Chance, Course, forgotten, IsNextOf}
use Rattle.schedule.specs.declared.halt.Halt.{Halt}
use Rattle.schedule.specs.declared.halt.Halt.TheVariants.{NoMemory, Untold}
use Rattle.schedule.specs.Moments.{Moment, moment}
use Rattle.schedule.specs.Runs.{Makes, Plays, TookTurns}

-- what an observer says of two states of its log and the moments between them
abbrev pub Sight : Type 0 → Type 1
Sight L = L → List Moment → L → Type 0

-- the moments of all groups, in order
abbrev pub joined : List (List Moment) → List Moment
joined groups = flat_map (λ ms. ms) groups

-- a step leads from one machine to another, and its moment was seen; where there is no step, nothing changed
abbrev pub MakesSeen : {L : Type 0} → Sight L → Geometry → State → Option Step → State → L → L → Type 0
MakesSeen saw g v None w x y = (w ≡ v) × (y ≡ x)
MakesSeen saw g v (Some step) w x y = (e : Option Entry) × Makes g v (Some step) e w × saw x (moment v step e w ∷ []) y

-- why a step's moment was not seen: memory ran out, and nothing was changed; or the step was made, and the observer could not tell of it
abbrev pub StopsAt : {L : Type 0} → Sight L → Geometry → State → Step → State → L → L → Halt → Type 0
StopsAt missed g v step w x y NoMemory = (w ≡ v) × (y ≡ x)
StopsAt missed g v step w x y Untold = (e : Option Entry) × Makes g v (Some step) e w × missed x (moment v step e w ∷ []) y

-- the next step behind a list was made, and its moment was seen; or it was not, and why
abbrev pub GoesSeen : {L : Type 0} → Sight L → Geometry → State → ℕ → Behind → Step → Behind → State → L → L → Type 0
GoesSeen saw g v after b step c w x y = IsNextOf g v after b step c × MakesSeen saw g v (Some step) w x y

abbrev pub GoesUnseen : {L : Type 0} → Sight L → Geometry → State → ℕ → Behind → Behind → State → L → L → Halt → Type 0
GoesUnseen missed g v after b c w x y NoMemory = (w ≡ v) × (y ≡ x) × (forgotten c ≡ forgotten b)
GoesUnseen missed g v after b c w x y Untold = (step : Step) × IsNextOf g v after b step c × StopsAt missed g v step w x y Untold

-- so many turns were taken, the first after one hart's, and all were seen at once, or there was none; the last core step was then this hart's
abbrev pub TakesSeen : {L : Type 0} → Sight L → Geometry → State → ℕ → ℕ → State → ℕ → L → L → Type 0
TakesSeen saw g v after n w last x y =
    ((n ≡ 0) × (w ≡ v) × (last ≡ after) × (y ≡ x)) ⊎ ((ms : List Moment) × TookTurns g v after ms w last × (n ≡ length ms) × saw x ms y)

-- some turns were taken, so many at most, the first after one hart's, and the observer could not tell of them
abbrev pub TakesUnseen : {L : Type 0} → Sight L → Geometry → State → ℕ → ℕ → State → L → L → Type 0
TakesUnseen missed g v after most w x y = (ms : List Moment) × (last : ℕ) × TookTurns g v after ms w last × (0 < length ms) × (length ms ≤ most) × missed x ms y

-- the same behind a step, where it is turns that come behind a list
abbrev pub MoreSeen : {L : Type 0} → Sight L → Geometry → Behind → State → ℕ → ℕ → State → ℕ → L → L → Type 0
MoreSeen saw g Turns v after n w last x y = TakesSeen saw g v after n w last x y
MoreSeen saw g (Chance kept) v after n w last x y = (n ≡ 0) × (w ≡ v) × (last ≡ after) × (y ≡ x)

abbrev pub MoreUnseen : {L : Type 0} → Sight L → Geometry → Behind → State → ℕ → ℕ → State → L → L → Type 0
MoreUnseen missed g Turns v after most w x y = TakesUnseen missed g v after most w x y
MoreUnseen missed g (Chance kept) v after most w x y = ⊥

-- n steps on a course were made, and their moments were seen, group by group
abbrev pub IsSeen : {L : Type 0} → Sight L → Geometry → Course → ℕ → State → State → L → L → Type 0
IsSeen saw g course n v w x y = (groups : List (List Moment)) × Plays g course n v (joined groups) w × FoldsTo saw x groups y

-- n steps were made: the moments but the last ones were seen, and of these the observer could not tell
abbrev pub IsMissed : {L : Type 0} → Sight L → Sight L → Geometry → Course → ℕ → State → State → L → L → Type 0
IsMissed {L} saw missed g course n v w x y = (groups : List (List Moment)) × (last : List Moment) × (z : L)
    × Plays g course n v (joined groups ++ last) w × FoldsTo saw x groups z × missed z last y

-- what was made of n steps. Memory ran out: fewer, and all were seen. The observer failed: some, and it could not tell of the last, or of those of the last turns that were taken at once
abbrev pub IsHalted : {L : Type 0} → Sight L → Sight L → Geometry → Course → ℕ → State → State → L → L → Halt → Type 0
IsHalted saw missed g course n v w x y NoMemory = (m : ℕ) × (m < n) × IsSeen saw g course m v w x y
IsHalted saw missed g course n v w x y Untold = (m : ℕ) × (m < n) × IsMissed saw missed g course (m + 1) v w x y
