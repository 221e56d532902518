-- The page of a run.
use Rattle.std.specs.Prelude.{ℕ, ◌<◌, ◌+◌, ◌++◌, List, [], ◌∷◌, codes, decimal}
use Rattle.std.specs.List.{concat, flat_map}
use Rattle.words.specs.Sinks.{SinkState, TookAll, TookPart}
use Rattle.disassembler.specs.Tables.{Table}
use Rattle.protocol.specs.Caches.{Geometry}
use Rattle.machine.specs.States.{State, setting_of}
use Rattle.schedule.specs.Courses.{Course}
use Rattle.schedule.specs.Moments.{Moment}
use Rattle.schedule.specs.Runs.{Plays}
use Rattle.schedule.specs.declared.halt.Halt.{Halt}
use Rattle.schedule.specs.declared.halt.Halt.TheVariants.{NoMemory, Untold}
use Rattle.pages.specs.Form.{head, tail}
use Rattle.pages.specs.Memory.{digits_item}
use Rattle.pages.specs.Harts.{harts_text}
use Rattle.pages.specs.Moments.{moments_text, rest_text}

-- the sizes of the caches, how many harts there are, and the addresses of the words
abbrev pub sizes_text : Geometry → ℕ → List ℕ
sizes_text g harts = concat (head ∷ codes "sets:" ∷ decimal g.sets ∷ codes ",ways:" ∷ decimal g.ways ∷ codes ",harts:" ∷ decimal harts ∷ codes ",addresses:[" ∷ [])

-- the machine before the first step: its harts, the messages in flight, with their texts, and the words
abbrev pub first_text : Table → ℕ → List ℕ → State → List ℕ
first_text names sets words v = codes "],first:{harts:[" ++ (harts_text names sets v ++ (codes "]," ++ (rest_text sets words 0 v ++ codes "moments:[\n")))

-- what comes before the moments of a run from here
abbrev pub opening : Table → Geometry → State → List ℕ → List ℕ
opening names g v words = sizes_text g (setting_of v).count ++ (flat_map digits_item words ++ first_text names g.sets words v)

-- the moments of a run from here, with these names, where these words are shown
abbrev pub begun_page : Table → Geometry → State → List ℕ → List Moment → List ℕ
begun_page names g v words ms = opening names g v words ++ moments_text names g.sets words ms

-- all of their page
abbrev pub page_of : Table → Geometry → State → List ℕ → List Moment → List ℕ
page_of names g v words ms = opening names g v words ++ (moments_text names g.sets words ms ++ tail)

-- n steps on a course were made, and the sink took their page
abbrev pub IsPaged : Table → Geometry → List ℕ → Course → ℕ → State → State → SinkState → SinkState → Type 0
IsPaged names g words course n v w before after = (ms : List Moment) × Plays g course n v ms w × TookAll before after (page_of names g v words ms)

-- what was made of n steps. Memory ran out: fewer, and the sink took the moments of all of them, with no end. A put failed: some, or all, and it took a beginning of their page
abbrev pub IsPagedInPart : Table → Geometry → List ℕ → Course → ℕ → State → State → SinkState → SinkState → Halt → Type 0
IsPagedInPart names g words course n v w before after NoMemory = (m : ℕ) × (m < n) × (ms : List Moment) × Plays g course m v ms w
    × TookAll before after (begun_page names g v words ms)
IsPagedInPart names g words course n v w before after Untold = (m : ℕ) × (m < n + 1) × (ms : List Moment) × Plays g course m v ms w
    × TookPart before after (page_of names g v words ms)
