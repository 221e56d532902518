-- What there is before the first step of a run.
use Rattle.std.specs.Prelude.{ℕ, ◌≡◌, ◌⊎◌, List, None}
use Rattle.loader.specs.Programs.{Program}
use Rattle.flat.specs.Boots.{boot_fault}
use Rattle.protocol.specs.Caches.{Geometry}
use Rattle.machine.specs.States.{State, setting_of}
use Rattle.command_line.specs.declared.request.Run.{Run}
use Rattle.command_line.specs.declared.request.Word.{Word}
use Rattle.schedule.specs.declared.choices.Choice.{Choice}
use Rattle.render.specs.Reports.{AllReadable}
use Rattle.requests.specs.Runs.{addresses}
use Rattle.requests.specs.Schedules.{AreChosenBy, IsScheduleFault}
use Rattle.requests.specs.Sources.{IsProgramIn}
use Rattle.requests.specs.Starts.{IsStartOf, IsStartFault, flat_start}
use Rattle.requests.specs.Unreadable.{IsFirstUnreadable}
use Rattle.requests.specs.declared.fault.Fault.{Fault}
use Rattle.requests.specs.declared.fault.Fault.TheVariants as fault

-- the machine that the file's program begins in, the addresses of the words to show, which can be read, and the choices that the list spells
pub record IsBegunBy (g : Geometry) (run : Run) (file list : List ℕ) (first : State) (addrs : List ℕ) (choices : List Choice) : Type 0 where
  pub starts : IsStartOf g run.setup file first
  pub same : addrs ≡ addresses run.words.items
  pub readable : AllReadable (setting_of first) (addresses run.words.items)
  pub chosen : AreChosenBy list choices

-- the program boots, and the word is the first of the run's that nothing can be read at
pub record CanNotShow (run : Run) (file : List ℕ) (k : ℕ) (w : Word) : Type 0 where
  pub program : Program
  pub holds : IsProgramIn run.setup.file.now file program
  pub boots : boot_fault program.segments run.setup.harts run.setup.memory ≡ None
  pub first : IsFirstUnreadable (flat_start program run.setup).setting run.words.items k w

-- the program boots, and each word of the run can be read
pub record CanShow (run : Run) (file : List ℕ) : Type 0 where
  pub program : Program
  pub holds : IsProgramIn run.setup.file.now file program
  pub boots : boot_fault program.segments run.setup.harts run.setup.memory ≡ None
  pub readable : AllReadable (flat_start program run.setup).setting (addresses run.words.items)

-- a word of the run can't be read, and which
abbrev pub IsWordFault : Run → List ℕ → Fault → Type 0
IsWordFault run file why = (k : ℕ) × (w : Word) × CanNotShow run file k w × (why ≡ fault.Word w.text)

-- why no run of the file with these bytes begins, by whatever list: the first that is wrong of the file, the boot and the words
abbrev pub IsUnready : Run → List ℕ → Fault → Type 0
IsUnready run file why = IsStartFault run.setup file why ⊎ IsWordFault run file why

-- why a run of the file with these bytes, by this list, doesn't begin: the first that is wrong of the file, the boot, the words and the list
abbrev pub IsUnbegun : Run → List ℕ → List ℕ → Fault → Type 0
IsUnbegun run file list why = IsStartFault run.setup file why ⊎ (IsWordFault run file why ⊎ (CanShow run file × IsScheduleFault list why))
