-- What is shown of a run: on standard output, and in a file.
use Rattle.std.specs.Prelude.{ℕ, ◌≡◌, ◌<◌, ◌≤◌, ◌⊎◌, ◌++◌, List, []}
use Rattle.std.specs.Borrow.{Bor}
use Rattle.words.specs.Sinks.{IsUntouched, SinkState, TookAll, TookPart}
use Rattle.disassembler.specs.Tables.{Table}
use Rattle.protocol.specs.Caches.{Geometry}
use Rattle.machine.specs.States.{State, setting_of}
use Rattle.command_line.specs.declared.request.Show.{Show}
use Rattle.command_line.specs.declared.request.Show.TheVariants as shows
use Rattle.command_line.specs.declared.request.View.{View}
use Rattle.command_line.specs.declared.request.View.TheVariants.{Trace, Timeline, Picture, Page}
use Rattle.schedule.specs.Courses.{Course}
use Rattle.schedule.specs.Moments.{Moment}
use Rattle.schedule.specs.Runs.{Plays}
use Rattle.schedule.specs.declared.halt.Halt.{Halt}
use Rattle.schedule.specs.declared.halt.Halt.TheVariants as halt
use Rattle.watch.specs.declared.counting.Tally.{Tally}
use Rattle.watch.specs.Traces.{trace_of}
use Rattle.timeline.specs.Timelines.{begun_timeline, timeline_of}
use Rattle.timeline.specs.Pictures.{picture_of}
use Rattle.pages.specs.Pages.{begun_page, page_of}
use Rattle.simulate.specs.Counted.{AreCounts, behind_report}
use Rattle.requests.specs.Outputs.{Texts, Sinks, TakeAll}
use Rattle.requests.specs.declared.fault.Fault.{Fault}
use Rattle.requests.specs.declared.fault.Fault.TheVariants.{Unmade, Unwritten, NoMemory}

-- what a view shows of moments, with these caches, of a run from this machine, and these words: the lines of their entries, their timeline, its picture, or their page
abbrev pub view_text : Table → View → Geometry → List ℕ → State → List Moment → List ℕ
view_text names Trace g words first ms = trace_of names ms
view_text names Timeline g words first ms = timeline_of g.sets (setting_of first).count ms
view_text names Picture g words first ms = picture_of g.sets (setting_of first).count ms
view_text names Page g words first ms = page_of names g first words ms

-- and where memory runs out behind them: a timeline and a page have no end then, and there is no picture
abbrev pub begun_view : Table → View → Geometry → List ℕ → State → List Moment → List ℕ
begun_view names Trace g words first ms = trace_of names ms
begun_view names Timeline g words first ms = begun_timeline g.sets (setting_of first).count ms
begun_view names Picture g words first ms = []
begun_view names Page g words first ms = begun_page names g first words ms

-- what is shown of moments before the report: a trace on standard output, or a view in a file
abbrev pub shown_before : Table → Show → Geometry → List ℕ → State → List Moment → Texts
shown_before names shows.Trace g words first ms = record { output = trace_of names ms; file = [] }
shown_before names (shows.View view path) g words first ms = record { output = []; file = view_text names view g words first ms }
shown_before names other g words first ms = record { output = []; file = [] }

-- and where memory runs out behind them
abbrev pub shown_so_far : Table → Show → Geometry → List ℕ → State → List Moment → Texts
shown_so_far names shows.Trace g words first ms = record { output = trace_of names ms; file = [] }
shown_so_far names (shows.View view path) g words first ms = record { output = []; file = begun_view names view g words first ms }
shown_so_far names other g words first ms = record { output = []; file = [] }

-- all that is shown of moments, with their report
abbrev pub shown_texts : Table → Show → Geometry → List ℕ → State → List Moment → List ℕ → Texts
shown_texts names show g words first ms report =
    record { output = (shown_before names show g words first ms).output ++ (report ++ behind_report show g.sets (setting_of first).count ms); file = (shown_before names show g words first ms).file }

-- n steps on a course were made, and counted where counts are shown; and what is shown before the report was taken, with these words where it shows any
abbrev pub IsShown : Table → Show → Geometry → List ℕ → Course → ℕ → State → State → Tally → Sinks → Sinks → Type 0
IsShown names show g words course n v w counts before after =
    (ms : List Moment) × Plays g course n v ms w × AreCounts show g.sets ms counts × TakeAll before after (shown_before names show g words v ms)

-- why n steps weren't made and shown: memory ran out behind fewer, and all that can be shown of them was taken; or a put failed, and a beginning of what is shown of some was taken by
-- standard output, or by the file
module _ (names : Table) (show : Show) (g : Geometry) (words : List ℕ) (course : Course) (n : ℕ) (v w : State) (before after : Sinks) where
  abbrev pub IsStoppedBehind : Type 0
  IsStoppedBehind = (m : ℕ) × (m < n) × ((ms : List Moment) × Plays g course m v ms w × TakeAll before after (shown_so_far names show g words v ms))

  abbrev pub IsOutputCut : Type 0
  IsOutputCut = (m : ℕ) × (m ≤ n) × ((ms : List Moment) × Plays g course m v ms w
      × TookPart before.output after.output (shown_before names show g words v ms).output × IsUntouched before.file after.file)

  abbrev pub IsFileCut : Type 0
  IsFileCut = (m : ℕ) × (m ≤ n) × ((ms : List Moment) × Plays g course m v ms w
      × TookPart before.file after.file (shown_before names show g words v ms).file × IsUntouched before.output after.output)

  abbrev pub IsCutShort : Fault → Type 0
  IsCutShort fault = ((fault ≡ NoMemory) × IsStoppedBehind)
      ⊎ (((fault ≡ Unwritten) × (show ≡ shows.Trace) × IsOutputCut)
      ⊎ ((view : View) × (path : Bor (List ℕ)) × (show ≡ shows.View view path) × (fault ≡ Unmade path) × IsFileCut))

-- the same of a view's file alone
module _ (names : Table) (view : View) (g : Geometry) (words : List ℕ) (course : Course) (n : ℕ) (v w : State) (before after : SinkState) where
  abbrev pub IsViewed : Type 0
  IsViewed = (ms : List Moment) × Plays g course n v ms w × TookAll before after (view_text names view g words v ms)

  abbrev pub IsViewedSoFar : Type 0
  IsViewedSoFar = (m : ℕ) × (m < n) × ((ms : List Moment) × Plays g course m v ms w × TookAll before after (begun_view names view g words v ms))

  abbrev pub IsViewedInPart : Type 0
  IsViewedInPart = (m : ℕ) × (m ≤ n) × ((ms : List Moment) × Plays g course m v ms w × TookPart before after (view_text names view g words v ms))

  abbrev pub IsViewCut : Halt → Type 0
  IsViewCut halt.NoMemory = IsViewedSoFar
  IsViewCut halt.Untold = IsViewedInPart

  abbrev pub IsViewFault : Bor (List ℕ) → Fault → Type 0
  IsViewFault path fault = ((fault ≡ NoMemory) × IsViewedSoFar) ⊎ ((fault ≡ Unmade path) × IsViewedInPart)
