-- What a run by chance gives whose history is written.
use Rattle.std.specs.Prelude.{ℕ, ◌≡◌, ◌⊎◌, ◌++◌, List, Some, None, take}
use Rattle.std.specs.Borrow.{Bor}
use Rattle.words.specs.Sinks.{TookAll, TookPart}
use Rattle.command_line.specs.declared.request.Print.{Print}
use Rattle.command_line.specs.declared.request.Run.{Run}
use Rattle.command_line.specs.Runs.{shown}
use Rattle.protocol.specs.Caches.{Geometry}
use Rattle.schedule.specs.declared.choices.Choice.{Choice}
use Rattle.schedule.specs.Courses.{Chance}
use Rattle.schedule.specs.Written.{text_of}
use Rattle.simulate.specs.Given.{AreTextsOf, IsNotGiven}
use Rattle.requests.specs.Schedules.{AreChosenBy}
use Rattle.requests.specs.Outputs.{Texts, Sinks}
use Rattle.render.specs.Statuses.{IsReported}
use Rattle.requests.specs.declared.fault.Fault.{Fault}
use Rattle.requests.specs.declared.fault.Fault.TheVariants.{Unmade}

-- the history of so many steps: the choices of the list that were made, and what chance chose behind them, line by line
abbrev pub IsHistoryOf : ℕ → List ℕ → List Choice → List ℕ → Type 0
IsHistoryOf steps list chosen history = (choices : List Choice) × AreChosenBy list choices × (history ≡ text_of (take steps choices ++ chosen))

module _ (g : Geometry) (run : Run) (print : Print) (path : Bor (List ℕ)) (file list : List ℕ) (before after : Sinks) where
  -- the texts are those of the run in which chance chose just what the history says
  pub record IsOfHistory (texts : Texts) (status : ℕ) (history : List ℕ) : Type 0 where
    pub chosen : List Choice
    pub texts_of : AreTextsOf g run (Chance (Some chosen)) (shown print) file list texts status
    pub history_of : IsHistoryOf run.steps list chosen history

  -- standard output took all texts, and the file the history
  abbrev pub IsGivenAndKept : ℕ → Type 0
  IsGivenAndKept status = IsReported status × ((texts : Texts) × (history : List ℕ) × IsOfHistory texts status history
      × TookAll before.output after.output texts.output × TookAll before.file after.file history)

  -- all texts were taken, and a put of the history failed
  abbrev pub IsUnkept : Type 0
  IsUnkept = (texts : Texts) × (status : ℕ) × (history : List ℕ) × IsOfHistory texts status history
      × TookAll before.output after.output texts.output × TookPart before.file after.file history

  abbrev pub IsNotGivenOrKept : Fault → Type 0
  IsNotGivenOrKept fault = IsNotGiven g run (Chance None) (shown print) file list before after fault ⊎ ((fault ≡ Unmade path) × IsUnkept)
