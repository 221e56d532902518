-- A source as it is laid out, with the labels of all its lines at once: each line makes what it says at its place, and the labels
-- are those of the lines.
use Rattle.std.specs.Prelude.{◌≡◌, ℕ, ◌≤◌, List, [], ◌∷◌, Option, Some, None, IfSome, Result, Ok, Err}
use Rattle.std.specs.List.{AllByRecursion}
use Rattle.statements.specs.declared.fault.AsmFault.{AsmFault}
use Rattle.assembler.specs.declared.progress.Progress.{Progress}
use Rattle.statements.specs.Cutting.{parts_of}
use Rattle.statements.specs.Places.{Labels}
use Rattle.assembler.specs.Progress.{here, start}
use Rattle.statements.specs.Statements.{Made, statement_of}
use Rattle.assembler.specs.Programs.{IsProgramOf}
use Rattle.loader.specs.Programs.{Program}
use Rattle.assembler.specs.Passes.{Layout, lines, behind, with_made}
use Rattle.statements.specs.Lines.{checked_line}

-- A line between two layouts: its label is the name of its place, and what its statement makes there comes next in its section.
pub record IsLaid (labels : Labels) (line : List ℕ) (l k : Layout) : Type 0 where
  pub text : List ℕ
  pub short : checked_line line ≡ Ok text
  pub label : IfSome (parts_of text).label (λ name. labels.places name ≡ Some (here l.progress))
  pub made : Made
  pub makes : statement_of (here l.progress) (Some labels) (parts_of text).statement ≡ Ok made
  pub next : Progress
  pub follows : behind made l.progress ≡ Ok next
  pub laid : with_made l.progress.section made next l ≡ k

-- the same of lines, one behind another
abbrev pub AreLaid : Labels → List (List ℕ) → Layout → Layout → Type 0
AreLaid labels [] l m = l ≡ m
AreLaid labels (line ∷ lines) l m = (k : Layout) × IsLaid labels line l k × AreLaid labels lines k m

-- the label of a line, if it has one
abbrev pub label_of : Result (List ℕ) AsmFault → Option (List ℕ)
label_of (Ok text) = (parts_of text).label
label_of (Err fault) = None

-- no line has the label
abbrev pub NoneHas : List ℕ → List (List ℕ) → Type 0
NoneHas name lines = AllByRecursion (λ line. label_of (checked_line line) ≡ Some name → ⊥) lines

-- no two lines have one label
abbrev pub AreApart : List (List ℕ) → Type 0
AreApart [] = Unit {0}
AreApart (line ∷ lines) = ((name : List ℕ) → label_of (checked_line line) ≡ Some name → NoneHas name lines) × AreApart lines

pub record IsLayoutOf (source : List ℕ) (labels : Labels) (l : Layout) : Type 0 where
  pub laid : AreLaid labels (lines source) (record { progress = start; text = []; data_made = [] }) l
  pub apart : AreApart (lines source)
  pub only : (name : List ℕ) → NoneHas name (lines source) → labels.places name ≡ None
  pub size : labels.text_size ≡ l.progress.text_size
  pub some_word : 4 ≤ labels.text_size

-- A source spells a program: its lines can be laid out with some labels, and the program has the bytes of that.
pub record IsSourceOf (source : List ℕ) (p : Program) : Type 0 where
  pub labels : Labels
  pub layout : Layout
  pub laid_out : IsLayoutOf source labels layout
  pub program : IsProgramOf labels layout p
