-- What a run by turns or by chance gives: what standard output and a file took, and the status.
use Rattle.std.specs.Prelude.{ℕ, ◌≡◌, ◌<◌, ◌≤◌, ◌⊎◌, List}
use Rattle.std.specs.Borrow.{Bor}
use Rattle.words.specs.Sinks.{IsUntouched, TookAll, TookPart}
use Rattle.flat.specs.State.{Flat}
use Rattle.protocol.specs.Caches.{Geometry}
use Rattle.command_line.specs.declared.request.Run.{Run}
use Rattle.command_line.specs.declared.request.Show.{Show}
use Rattle.command_line.specs.declared.request.Show.TheVariants as shows
use Rattle.command_line.specs.declared.request.View.{View}
use Rattle.schedule.specs.Courses.{Behind}
use Rattle.schedule.specs.Moments.{Moment}
use Rattle.requests.specs.Begins.{IsUnbegun}
use Rattle.requests.specs.Runs.{ComesBy, IsReport, addresses}
use Rattle.requests.specs.Sources.{names_in}
use Rattle.requests.specs.Outputs.{Texts, Sinks, TakeAll}
use Rattle.simulate.specs.Shown.{shown_before, shown_so_far, shown_texts}
use Rattle.render.specs.Statuses.{IsReported}
use Rattle.requests.specs.declared.fault.Fault.{Fault}
use Rattle.requests.specs.declared.fault.Fault.TheVariants.{Unmade, Unwritten, NoMemory}

module _ (g : Geometry) (run : Run) (behind : Behind) (show : Show) (file list : List ℕ) where
  -- so many steps of the file with these bytes, by this list and what comes behind it, have these moments, and lead to this flat state
  abbrev pub Comes : ℕ → List Moment → Flat → Type 0
  Comes steps ms f = ComesBy g run.setup behind file list steps ms f

  -- the texts are all that is shown of the run, with the report on the state that its steps lead to; and the status goes with it
  abbrev pub AreTextsOf : Texts → ℕ → Type 0
  AreTextsOf texts status = (ms : List Moment) × (f : Flat) × (comes : Comes run.steps ms f)
      × ((report : List ℕ) × IsReport f run.words.items report status × (texts ≡ shown_texts (names_in run.setup.file.now file) show g (addresses run.words.items) comes.first ms report))

  module _ (before after : Sinks) where
    -- all texts of the run were taken
    abbrev pub IsGiven : ℕ → Type 0
    IsGiven status = IsReported status × ((texts : Texts) × AreTextsOf texts status × TakeAll before after texts)

    -- memory ran out behind some steps, and all that can be shown of them was taken
    abbrev pub IsStopped : Type 0
    IsStopped = (m : ℕ) × (m < run.steps) × ((ms : List Moment) × (f : Flat) × (comes : Comes m ms f) × TakeAll before after (shown_so_far (names_in run.setup.file.now file) show g (addresses run.words.items) comes.first ms))

    -- a put failed while steps were made: a beginning of what is shown of them was taken by standard output, or by the file
    abbrev pub IsOutputCut : Type 0
    IsOutputCut = (m : ℕ) × (m ≤ run.steps) × ((ms : List Moment) × (f : Flat) × (comes : Comes m ms f)
        × TookPart before.output after.output (shown_before (names_in run.setup.file.now file) show g (addresses run.words.items) comes.first ms).output × IsUntouched before.file after.file)

    abbrev pub IsFileCut : Type 0
    IsFileCut = (m : ℕ) × (m ≤ run.steps) × ((ms : List Moment) × (f : Flat) × (comes : Comes m ms f)
        × TookPart before.file after.file (shown_before (names_in run.setup.file.now file) show g (addresses run.words.items) comes.first ms).file × IsUntouched before.output after.output)

    -- a put of the report, or of what stands behind it, failed
    abbrev pub IsReportCut : Type 0
    IsReportCut = (texts : Texts) × (status : ℕ) × AreTextsOf texts status × TookPart before.output after.output texts.output × TookAll before.file after.file texts.file

    -- why not all texts were taken, and what was taken by then
    abbrev pub IsNotGiven : Fault → Type 0
    IsNotGiven fault = (IsUnbegun run file list fault × IsUntouched before.output after.output × IsUntouched before.file after.file)
        ⊎ (((fault ≡ NoMemory) × IsStopped)
        ⊎ (((fault ≡ Unwritten) × (show ≡ shows.Trace) × IsOutputCut)
        ⊎ (((view : View) × (path : Bor (List ℕ)) × (show ≡ shows.View view path) × (fault ≡ Unmade path) × IsFileCut)
        ⊎ ((fault ≡ Unwritten) × IsReportCut))))
