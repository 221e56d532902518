-- The two passes over the lines of a source. The first finds where the labels stand, the second what the lines make.
use Rattle.std.specs.Prelude.{ℕ, ◌+◌, ◌*◌, ◌==◌, not, if◌then◌else◌, nat_lt, bytes_eq, List, [], ◌∷◌, ◌++◌, length, Option, Some, None, Result, Ok, Err}
use Rattle.std.specs.List.{slice_split}
use Rattle.std.specs.Option.{is_some, ok_or}
use Rattle.words.specs.Bytes.{bytes_in}
use Rattle.statements.specs.declared.fault.AsmFault.{AsmFault}
use Rattle.statements.specs.declared.fault.AsmFault.TheVariants.{TwiceDefined, TooLarge}
use Rattle.assembler.specs.declared.fault.SourceFault.{SourceFault}
use Rattle.statements.specs.declared.place.Place.{Place}
use Rattle.assembler.specs.declared.progress.Progress.{Progress}
use Rattle.statements.specs.declared.place.Section.{Section}
use Rattle.statements.specs.declared.place.Section.TheVariants.{Text, Data}
use Rattle.statements.specs.Cutting.{parts_of}
use Rattle.statements.specs.Places.{Labels}
use Rattle.assembler.specs.Progress.{here, start, grown}
use Rattle.statements.specs.Operands.{◌>>=◌, checked}
use Rattle.statements.specs.Lines.{checked_line, line_of}
use Rattle.statements.specs.Statements.{Made, statement_of}
use Rattle.statements.specs.Statements.Made.{Nothing, Enter, One, Two, Numbers, Zeros}

-- Lines

-- the lines of a source: a line feed ends each but the last
abbrev pub lines : List ℕ → List (List ℕ)
lines source = slice_split (λ c. c == 10) source

-- how many bytes are made
abbrev pub size_of : Made → ℕ
size_of Nothing = 0
size_of (Enter section) = 0
size_of (One i) = 4
size_of (Two i j) = 8
size_of (Numbers width values) = bytes_in width * length values
size_of (Zeros count) = count

abbrev pub entered : Section → Progress → Progress
entered section p = record { section = section; text_size = p.text_size; data_size = p.data_size }

-- where the next line stands
abbrev pub behind : Made → Progress → Result Progress AsmFault
behind (Enter section) p = Ok (entered section p)
behind made p = ok_or (grown (size_of made) p) TooLarge

-- The first pass

-- how far it has come, and where the labels of the lines so far stand
pub record Survey : Type 0 where
  pub progress : Progress
  pub places : List ℕ → Option Place

-- a label more
abbrev pub with_label : Option (List ℕ) → Place → (List ℕ → Option Place) → Result (List ℕ → Option Place) AsmFault
with_label None at places = Ok places
with_label (Some name) at places = checked (not (is_some (places name))) TwiceDefined (λ other. if bytes_eq name other then Some at else places other)

unfoldable pub survey_line : List ℕ → Survey → Result Survey AsmFault
survey_line line s = do
  text ← checked_line line
  places ← with_label (parts_of text).label (here s.progress) s.places
  made ← statement_of (here s.progress) None (parts_of text).statement
  next ← behind made s.progress
  Ok (record { progress = next; places = places })

-- A pass: a step at each line, up to the first fault

-- a fault of the line with a number
abbrev pub at_line : {A : Type 0} → ℕ → Result A AsmFault → Result A SourceFault
at_line number (Ok x) = Ok x
at_line number (Err fault) = Err (record { line = number; fault = fault })

-- over lines that are numbered from a number on
abbrev pub pass : {S : Type 0} → (List ℕ → S → Result S AsmFault) → ℕ → List (List ℕ) → S → Result S SourceFault
pass step number [] s = Ok s
pass step number (line ∷ lines) s = at_line number (step line s) >>= pass step (number + 1) lines

abbrev pub nowhere : List ℕ → Option Place
nowhere name = None

-- where the labels stand, and how many bytes there are
unfoldable pub survey : List ℕ → Result Survey SourceFault
survey source = pass survey_line 1 (lines source) (record { progress = start; places = nowhere })

-- The second pass

-- what the lines so far have made, in the order of each section
pub record Layout : Type 0 where
  pub progress : Progress
  pub text : List Made
  pub data_made : List Made

abbrev pub with_made : Section → Made → Progress → Layout → Layout
with_made Text made next l = record { progress = next; text = l.text ++ made ∷ []; data_made = l.data_made }
with_made Data made next l = record { progress = next; text = l.text; data_made = l.data_made ++ made ∷ [] }

unfoldable pub lay_line : Labels → List ℕ → Layout → Result Layout AsmFault
lay_line labels line l = do
  made ← line_of (here l.progress) (Some labels) line
  next ← behind made l.progress
  Ok (with_made l.progress.section made next l)

unfoldable pub lay : Labels → List ℕ → Result Layout SourceFault
lay labels source = pass (lay_line labels) 1 (lines source) (record { progress = start; text = []; data_made = [] })

-- Both

-- what a source makes, and its labels
pub record Assembled : Type 0 where
  pub labels : Labels
  pub layout : Layout

abbrev pub labels_after : Survey → Labels
labels_after s = record { places = s.places; text_size = s.progress.text_size }

-- a source without a word of text is refused between the passes
unfoldable pub assembled : List ℕ → Result Assembled SourceFault
assembled source = do
  s ← survey source
  l ← if nat_lt s.progress.text_size 4 then Err (record { line = 0; fault = TooLarge }) else lay (labels_after s) source
  Ok (record { labels = labels_after s; layout = l })
