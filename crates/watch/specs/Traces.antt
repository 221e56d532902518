-- What a sink took of a run's trace.
use Rattle.std.specs.Prelude.{ℕ, ◌<◌, ◌+◌, List, [], Option, Some, None}
use Rattle.std.specs.List.{flat_map}
use Rattle.words.specs.declared.entry.Entry.{Entry}
use Rattle.words.specs.Sinks.{SinkState, TookAll, TookPart}
use Rattle.disassembler.specs.Tables.{Table}
use Rattle.protocol.specs.Caches.{Geometry}
use Rattle.machine.specs.States.{State}
use Rattle.render.specs.Entries.{entry_line}
use Rattle.schedule.specs.Courses.{Course}
use Rattle.schedule.specs.declared.halt.Halt.{Halt}
use Rattle.schedule.specs.declared.halt.Halt.TheVariants.{NoMemory, Untold}
use Rattle.schedule.specs.Moments.{Moment}
use Rattle.schedule.specs.Runs.{Plays}

-- the line of a moment's entry, if it gave one
abbrev pub line_if : Table → Option Entry → List ℕ
line_if names None = []
line_if names (Some e) = entry_line names e

abbrev pub line_of : Table → Moment → List ℕ
line_of names m = line_if names m.entry

-- the lines of the entries that some moments gave, in order
abbrev pub trace_of : Table → List Moment → List ℕ
trace_of names ms = flat_map (line_of names) ms

-- n steps on a course were made, and the sink took the lines of their entries, all of them and in order
abbrev pub IsTraced : Table → Geometry → Course → ℕ → State → State → SinkState → SinkState → Type 0
IsTraced names g course n v w before after = (ms : List Moment) × Plays g course n v ms w × TookAll before after (trace_of names ms)

-- what was made of n steps. Memory ran out: fewer, and the sink took the lines of all their entries. A put failed: some, and it took a beginning of these lines
abbrev pub IsCut : Table → Geometry → Course → ℕ → State → State → SinkState → SinkState → Halt → Type 0
IsCut names g course n v w before after NoMemory = (m : ℕ) × (m < n) × IsTraced names g course m v w before after
IsCut names g course n v w before after Untold =
    (m : ℕ) × (m < n) × (ms : List Moment) × Plays g course (m + 1) v ms w × TookPart before after (trace_of names ms)
