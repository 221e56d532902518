-- The choices in a schedule's file.
use Rattle.std.specs.Prelude.{ℕ, ◌≡◌, List, length}
use Rattle.std.specs.Str.{IsUtf8}
use Rattle.schedule.specs.declared.choices.Choice.{Choice}
use Rattle.schedule.specs.Lines.{lines_of, AreSpelledBy, IsFirstWrong}
use Rattle.requests.specs.declared.fault.Fault.{Fault}
use Rattle.requests.specs.declared.fault.Fault.TheVariants.{NotSchedule, Schedule, NoMemory}

-- the bytes are text, whose lines spell these choices
abbrev pub AreChosenBy : List ℕ → List Choice → Type 0
AreChosenBy list choices = IsUtf8 list × AreSpelledBy (lines_of list) choices

-- the list of a schedule has so many steps
abbrev pub HasSteps : List ℕ → ℕ → Type 0
HasSteps list n = (choices : List Choice) × AreChosenBy list choices × (length choices ≡ n)

-- why the bytes are no schedule: they are no text, or a line spells no step. Nothing is said of when memory runs out
abbrev pub IsScheduleFault : List ℕ → Fault → Type 0
IsScheduleFault list NotSchedule = IsUtf8 list → ⊥
IsScheduleFault list (Schedule number) = IsUtf8 list × IsFirstWrong (lines_of list) number
IsScheduleFault list NoMemory = Unit {0}
IsScheduleFault list other = ⊥
