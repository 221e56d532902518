-- What a run of a file comes to.
use Rattle.std.specs.Prelude.{ℕ, ◌≡◌, ◌-◌, List, map}
use Rattle.flat.specs.State.{Flat}
use Rattle.flat.specs.Steps.{IsRun}
use Rattle.loader.specs.Programs.{Program}
use Rattle.protocol.specs.Caches.{Geometry}
use Rattle.isolation.specs.Reasons.{HaveReasons}
use Rattle.machine.specs.States.{State, setting_of}
use Rattle.command_line.specs.declared.request.Setup.{Setup}
use Rattle.command_line.specs.declared.request.Word.{Word}
use Rattle.schedule.specs.declared.choices.Choice.{Choice}
use Rattle.schedule.specs.Moments.{Moment, entries_of}
use Rattle.schedule.specs.Courses.{Behind}
use Rattle.schedule.specs.Runs.{Goes}
use Rattle.render.specs.Reports.{report_of, AllReadable}
use Rattle.requests.specs.Schedules.{AreChosenBy}
use Rattle.requests.specs.Sources.{IsProgramIn}
use Rattle.requests.specs.Starts.{IsFirstOf, flat_start}
use Rattle.render.specs.Statuses.{IsStatusOf}

-- the file with this name and these bytes has a program; so many steps, those that a list chooses and then turns, or what chance chooses, lead from the machine that it begins in to
-- another, or fewer if there are no more; these are their moments, and the entries that they gave lead as a run of the flat machine from the program's first state to this one.
-- Each refusal, each spill, each abort for a conflict or a full log and each SC that stores among them has its reason
pub record ComesBy (g : Geometry) (setup : Setup) (behind : Behind) (file list : List ℕ) (steps : ℕ) (moments : List Moment) (f : Flat) : Type 0 where
  pub program : Program
  pub holds : IsProgramIn setup.file.now file program
  pub first : State
  pub begins : IsFirstOf g program setup first
  pub choices : List Choice
  pub chosen : AreChosenBy list choices
  pub last : State
  pub made : Goes behind g choices steps first ((setting_of first).count - 1) moments last
  pub run : IsRun (flat_start program setup) (entries_of moments) f
  pub reasons : HaveReasons (flat_start program setup) (entries_of moments)

-- the addresses of the words that are to be shown
abbrev pub addresses : List Word → List ℕ
addresses words = map (λ w. w.addr) words

-- the text is the report on this state, and the status goes with it
pub record IsReport (f : Flat) (words : List Word) (report : List ℕ) (given : ℕ) : Type 0 where
  pub readable : AllReadable f.setting (addresses words)
  pub text : report ≡ report_of f (addresses words)
  pub status : IsStatusOf f given
