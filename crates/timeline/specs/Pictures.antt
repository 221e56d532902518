-- The picture of a run.
use Rattle.std.specs.Prelude.{ℕ, ◌≡◌, ◌<◌, List}
use Rattle.words.specs.Sinks.{SinkState, TookAll, TookPart}
use Rattle.protocol.specs.Caches.{Geometry}
use Rattle.machine.specs.States.{State, setting_of}
use Rattle.schedule.specs.Courses.{Course}
use Rattle.schedule.specs.Moments.{Moment}
use Rattle.schedule.specs.Runs.{Plays}
use Rattle.schedule.specs.declared.halt.Halt.{Halt}
use Rattle.schedule.specs.declared.halt.Halt.TheVariants.{NoMemory, Untold}
use Rattle.timeline.specs.declared.row.Row.{Row}
use Rattle.timeline.specs.Rows.{rows_from}
use Rattle.timeline.specs.Drawings.{drawn}

-- the picture of moments, where the caches have so many sets and there are so many harts
abbrev pub picture_of : ℕ → ℕ → List Moment → List ℕ
picture_of sets harts ms = drawn harts (rows_from sets 0 ms)

-- n steps on a course were made, and these are their rows
abbrev pub IsNoted : Geometry → Course → ℕ → State → State → List Row → Type 0
IsNoted g course n v w rows = (ms : List Moment) × Plays g course n v ms w × (rows ≡ rows_from g.sets 0 ms)

-- fewer than n steps were made
abbrev pub IsCut : Geometry → Course → ℕ → State → State → Type 0
IsCut g course n v w = (m : ℕ) × (m < n) × (ms : List Moment) × Plays g course m v ms w

-- n steps on a course were made, and the sink took their picture
abbrev pub IsPictured : Geometry → Course → ℕ → State → State → SinkState → SinkState → Type 0
IsPictured g course n v w before after =
    (ms : List Moment) × Plays g course n v ms w × TookAll before after (picture_of g.sets (setting_of v).count ms)

-- memory ran out: fewer steps were made, and nothing was drawn. A put failed: all were made, and the sink took a beginning of their picture
abbrev pub IsNotPictured : Geometry → Course → ℕ → State → State → SinkState → SinkState → Halt → Type 0
IsNotPictured g course n v w before after NoMemory = IsCut g course n v w × (after ≡ before)
IsNotPictured g course n v w before after Untold =
    (ms : List Moment) × Plays g course n v ms w × TookPart before after (picture_of g.sets (setting_of v).count ms)
