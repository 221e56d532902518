-- The timeline of a run.
use Rattle.std.specs.Prelude.{ℕ, ◌<◌, ◌+◌, ◌++◌, List, [], ◌∷◌, codes, decimal}
use Rattle.std.specs.List.{concat, flat_map, range_with_len}
use Rattle.words.specs.Sinks.{SinkState, TookAll, TookPart}
use Rattle.protocol.specs.Caches.{Geometry}
use Rattle.machine.specs.States.{State, setting_of}
use Rattle.schedule.specs.Courses.{Course}
use Rattle.schedule.specs.Moments.{Moment}
use Rattle.schedule.specs.Runs.{Plays}
use Rattle.schedule.specs.declared.halt.Halt.{Halt}
use Rattle.schedule.specs.declared.halt.Halt.TheVariants.{NoMemory, Untold}
use Rattle.timeline.specs.Events.{events_from}
use Rattle.timeline.specs.Marks.{directory_lane}

-- the lanes have names
abbrev pub hart_lane : ℕ → List ℕ
hart_lane hart = concat (codes ",\n{\"ph\":\"M\",\"name\":\"thread_name\",\"pid\":0,\"tid\":" ∷ decimal hart ∷ codes ",\"args\":{\"name\":\"hart " ∷ decimal hart ∷ codes "\"}}" ∷ [])

abbrev pub last_lane : List ℕ
last_lane = concat (codes ",\n{\"ph\":\"M\",\"name\":\"thread_name\",\"pid\":0,\"tid\":" ∷ decimal directory_lane ∷ codes ",\"args\":{\"name\":\"directory\"}}" ∷ [])

abbrev pub first_event : List ℕ
first_event = codes "{\"traceEvents\":[\n{\"ph\":\"M\",\"name\":\"process_name\",\"pid\":0,\"args\":{\"name\":\"logtm\"}}"

abbrev pub opening : ℕ → List ℕ
opening harts = first_event ++ (flat_map hart_lane (range_with_len 0 harts) ++ last_lane)

abbrev pub closing : List ℕ
closing = codes "\n]}\n"

-- the events of moments, behind the names of the lanes of so many harts
abbrev pub begun_timeline : ℕ → ℕ → List Moment → List ℕ
begun_timeline sets harts ms = opening harts ++ events_from sets 0 ms

-- all of it, one object of JSON
abbrev pub timeline_of : ℕ → ℕ → List Moment → List ℕ
timeline_of sets harts ms = opening harts ++ (events_from sets 0 ms ++ closing)

-- n steps on a course were made, and the sink took their timeline
abbrev pub IsShown : Geometry → Course → ℕ → State → State → SinkState → SinkState → Type 0
IsShown g course n v w before after =
    (ms : List Moment) × Plays g course n v ms w × TookAll before after (timeline_of g.sets (setting_of v).count ms)

-- what was made of n steps. Memory ran out: fewer, and the sink took the events of all of them, with no end. A put failed: some, or all, and it took a beginning of their timeline
abbrev pub IsCutShort : Geometry → Course → ℕ → State → State → SinkState → SinkState → Halt → Type 0
IsCutShort g course n v w before after NoMemory = (m : ℕ) × (m < n) × (ms : List Moment) × Plays g course m v ms w
    × TookAll before after (begun_timeline g.sets (setting_of v).count ms)
IsCutShort g course n v w before after Untold = (m : ℕ) × (m < n + 1) × (ms : List Moment) × Plays g course m v ms w
    × TookPart before after (timeline_of g.sets (setting_of v).count ms)
