-- What a run with each hart in a thread gives.
use Rattle.std.specs.Prelude.{ℕ, ◌≡◌, ◌<◌, ◌⊎◌, List, [], Option, Some, None}
use Rattle.std.specs.Borrow.{Bor}
use Rattle.words.specs.Sinks.{IsUntouched, TookAll, TookPart}
use Rattle.words.specs.declared.cause.Status.TheVariants.{Running}
use Rattle.loader.specs.Programs.{Program}
use Rattle.flat.specs.Boots.{boot_fault}
use Rattle.flat.specs.declared.boot_fault.BootFault.{BootFault}
use Rattle.flat.specs.State.{Flat}
use Rattle.command_line.specs.declared.request.Run.{Run}
use Rattle.command_line.specs.declared.request.Show.TheVariants.{Report}
use Rattle.command_line.specs.declared.request.Word.{Word as Asked}
use Rattle.protocol.specs.Caches.{Geometry}
use Rattle.schedule.specs.Courses.{Turns}
use Rattle.schedule.specs.Moments.{Moment}
use Rattle.requests.specs.Begins.{IsUnbegun}
use Rattle.simulate.specs.Given.{AreTextsOf, Comes}
use Rattle.render.specs.Reports.{AllReadable}
use Rattle.requests.specs.Runs.{addresses}
use Rattle.board.specs.Turns.{AreOfTurns}
use Rattle.requests.specs.Schedules.{HasSteps}
use Rattle.requests.specs.Outputs.{Texts, Sinks}
use Rattle.requests.specs.Starts.{flat_start}
use Rattle.render.specs.Statuses.{IsReported}
use Rattle.requests.specs.Unreadable.{IsFirstUnreadable}
use Rattle.requests.specs.declared.fault.Fault.{Fault}
use Rattle.requests.specs.declared.fault.Fault.TheVariants.{Boot, Word, Exchanged, Unmade, Unwritten, NoMemory}

-- the same run, by turns and with so many steps
abbrev pub with_steps : Run → ℕ → Run
with_steps run n = record run { steps = n }

-- hart i is one of the machine, and still runs
abbrev pub StillRuns : Flat → ℕ → Type 0
StillRuns f i = (i < f.setting.count) × ((f.hart i).status ≡ Running)

-- the choices of the run that texts are of are those of whole turns, one after the other. No hart has had more turns than the run has steps, and each that
-- still runs has had just so many
abbrev pub AreOfTurnsOf : (g : Geometry) (run : Run) (file list : List ℕ) (n : ℕ) (texts : Texts) (status : ℕ) → AreTextsOf g (with_steps run n) Turns Report file list texts status → Type 0
AreOfTurnsOf g run file list n texts status (ms, f, comes, report) = AreOfTurns g run.steps (StillRuns f) comes.first comes.choices comes.last

-- what the file of a history takes, where there is one
abbrev pub history_text : Option (Bor (List ℕ)) → List ℕ → List ℕ
history_text None list = []
history_text (Some path) list = list

module _ (g : Geometry) (run : Run) (history : Option (Bor (List ℕ))) (file : List ℕ) (before after : Sinks) where
  -- the report is on the run which just the steps of some list come to, as a schedule of this list makes it; these are the harts' turns; and the list is the
  -- history
  abbrev pub IsGivenInThreads : ℕ → Type 0
  IsGivenInThreads status = IsReported status × ((list : List ℕ) × (n : ℕ) × HasSteps list n × (texts : Texts) × (are : AreTextsOf g (with_steps run n) Turns Report file list texts status)
      × AreOfTurnsOf g run file list n texts status are × TookAll before.output after.output texts.output × TookAll before.file after.file (history_text history list))

  -- a put of the history failed, or one of the report behind it
  abbrev pub IsHistoryCut : Type 0
  IsHistoryCut = (list : List ℕ) × (n : ℕ) × HasSteps list n × ((ms : List Moment) × (f : Flat) × (comes : Comes g run Turns Report file list n ms f)
      × AreOfTurns g run.steps (StillRuns f) comes.first comes.choices comes.last) × TookPart before.file after.file list × IsUntouched before.output after.output

  abbrev pub IsReportCut : Type 0
  IsReportCut = (list : List ℕ) × (n : ℕ) × HasSteps list n × (texts : Texts) × (status : ℕ) × (are : AreTextsOf g (with_steps run n) Turns Report file list texts status)
      × AreOfTurnsOf g run file list n texts status are × TookPart before.output after.output texts.output × TookAll before.file after.file (history_text history list)

  -- why not all was taken: there is no run, memory ran out, the lock gave back another board, or a put failed
  abbrev pub IsNotGivenInThreads : Fault → Type 0
  IsNotGivenInThreads fault = ((IsUnbegun run file [] fault ⊎ ((fault ≡ NoMemory) ⊎ (fault ≡ Exchanged))) × IsUntouched before.output after.output × IsUntouched before.file after.file)
      ⊎ (((path : Bor (List ℕ)) × (history ≡ Some path) × (fault ≡ Unmade path) × IsHistoryCut)
      ⊎ ((fault ≡ Unwritten) × IsReportCut))

-- Before the first turn

-- the program boots as asked, and the words can be shown, at these addresses
pub record IsReady (run : Run) (p : Program) (addrs : List ℕ) : Type 0 where
  pub boots : boot_fault p.segments run.setup.harts run.setup.memory ≡ None
  pub same : addrs ≡ addresses run.words.items
  pub readable : AllReadable (flat_start p run.setup).setting (addresses run.words.items)

-- why not: it can't be booted, nothing can be read at a word, or memory ran out
abbrev pub IsUnready : Run → Program → Fault → Type 0
IsUnready run p fault = ((b : BootFault) × (boot_fault p.segments run.setup.harts run.setup.memory ≡ Some b) × (fault ≡ Boot b))
    ⊎ (((k : ℕ) × (w : Asked) × (boot_fault p.segments run.setup.harts run.setup.memory ≡ None) × IsFirstUnreadable (flat_start p run.setup).setting run.words.items k w × (fault ≡ Word w.text))
    ⊎ (fault ≡ NoMemory))
