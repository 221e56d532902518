-- What the lines of a schedule spell.
use Rattle.std.specs.Prelude.{ℕ, ◌≡◌, ◌+◌, ◌==◌, ◌&&◌, Bool, true, false, not, All, List, [], ◌∷◌, map, filter, take, Option, Some, slice_get, is_none}
use Rattle.std.specs.List.{slice_split}
use Rattle.schedule.specs.declared.choices.Choice.{Choice}
use Rattle.schedule.specs.declared.lines.ScheduleFault.{ScheduleFault}
use Rattle.schedule.specs.declared.lines.ScheduleFault.TheVariants.{Line, NoMemory}
use Rattle.schedule.specs.Spelling.{words_of, choice_of}

-- a line feed parts two lines
abbrev pub lines_of : List ℕ → List (List ℕ)
lines_of text = slice_split (λ c. c == 10) text

-- an empty line says nothing, nor does one that begins with #
abbrev pub says : List ℕ → Bool
says [] = false
says (c ∷ cs) = not (c == 35)

abbrev pub spelled : List ℕ → Option Choice
spelled line = choice_of (words_of line)

-- these are the choices that lines spell, in order
abbrev pub AreSpelledBy : List (List ℕ) → List Choice → Type 0
AreSpelledBy lines choices = map Some choices ≡ map spelled (filter says lines)

-- a line says something, but spells no choice
abbrev pub is_wrong : List ℕ → Bool
is_wrong line = says line && is_none (spelled line)

-- of some lines, numbered from 1, this is the first that is wrong
pub record IsFirstWrong (lines : List (List ℕ)) (number : ℕ) : Type 0 where
  pub index : ℕ
  pub line : List ℕ
  pub place : number ≡ index + 1
  pub stands : slice_get lines index ≡ Some line
  pub here : is_wrong line ≡ true
  pub before : All (λ l. is_wrong l ≡ false) (take index lines)

-- why lines spell no schedule. Nothing is said of when memory runs out
abbrev pub IsFaultIn : List (List ℕ) → ScheduleFault → Type 0
IsFaultIn lines (Line number) = IsFirstWrong lines number
IsFaultIn lines NoMemory = Unit {0}
