-- What is promised of every report.
use Rattle.std.specs.Prelude.{ℕ, ◌≡◌, ◌++◌, List}
use Rattle.words.specs.Sinks.{TookAll}
use Rattle.words.specs.declared.entry.Entry.{Entry}
use Rattle.flat.specs.State.{Flat}
use Rattle.flat.specs.Steps.{IsRun}
use Rattle.flat.specs.Attempts.{IsAttempt, own_of, others_of}
use Rattle.protocol.specs.Caches.{Geometry}
use Rattle.command_line.specs.declared.request.Run.{Run}
use Rattle.command_line.specs.declared.request.Show.{Show}
use Rattle.schedule.specs.Courses.{Behind}
use Rattle.schedule.specs.Moments.{Moment, entries_of}
use Rattle.requests.specs.Outputs.{Sinks}
use Rattle.requests.specs.Runs.{ComesBy, IsReport, addresses}
use Rattle.requests.specs.Sources.{names_in}
use Rattle.requests.specs.Starts.{flat_start}
use Rattle.simulate.specs.Shown.{shown_texts}

-- each transaction in a run is as if it ran alone: of the entries from its begin on, those of the other harts can all come first and then its own, and they end
-- in the same state
abbrev pub AreSerial : Flat → List Entry → Type 0
AreSerial start es = (before es_of_it after : List Entry) (i : ℕ) (u v : Flat) → es ≡ before ++ (es_of_it ++ after) → IsRun start before u → IsAttempt i u es_of_it v
    → IsRun u (others_of i es_of_it ++ own_of i es_of_it) v

-- the steps that a run is asked for, those of a list and what comes after it, have just these moments. Their entries are a run of the flat machine from where the file's program begins
-- to this state, in which each refusal, each spill, each abort for a conflict or a full log and each SC that stores has its reason; and each transaction among them is as if it ran alone
pub record IsReached (g : Geometry) (run : Run) (behind : Behind) (file list : List ℕ) (moments : List Moment) (f : Flat) : Type 0 where
  pub comes : ComesBy g run.setup behind file list run.steps moments f
  pub serial : AreSerial (flat_start comes.program run.setup) (entries_of moments)

-- standard output took what is shown of just these moments, such as their trace, with the report on the state that they lead to; and the status goes with the report
module _ (g : Geometry) (run : Run) (behind : Behind) (show : Show) (file list : List ℕ) (before after : Sinks) where
  abbrev pub IsPromised : ℕ → Type 0
  IsPromised status = (moments : List Moment) × (f : Flat) × (reached : IsReached g run behind file list moments f) × ((report : List ℕ) × IsReport f run.words.items report status
      × TookAll before.output after.output (shown_texts (names_in run.setup.file.now file) show g (addresses run.words.items) reached.comes.first moments report).output)
