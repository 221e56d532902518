-- The program that a source makes.
use Rattle.std.specs.Prelude.{◌≡◌, ℕ, ◌+◌, ◌%◌, ◌==◌, ◌&&◌, ◌≤◌, if◌then◌else◌, nat_le, Bool, true, false, List, [], ◌∷◌, ◌++◌, length, codes, Option, Some, None}
use Rattle.table.specs.Program.{Segment}
use Rattle.loader.specs.Programs.{Program}
use Rattle.statements.specs.declared.place.Place.{Place}
use Rattle.statements.specs.declared.place.Section.{Section}
use Rattle.statements.specs.declared.place.Section.TheVariants.{Text, Data}
use Rattle.statements.specs.Places.{Labels, data_start}
use Rattle.statements.specs.Statements.{Made}
use Rattle.statements.specs.Bytes.{AreBytesOf}
use Rattle.assembler.specs.Passes.{Layout}

-- the bytes of what lines make, one behind another
abbrev pub AreBytesOfAll : List Made → List ℕ → Type 0
AreBytesOfAll [] bytes = bytes ≡ []
AreBytesOfAll (m ∷ ms) bytes = (a : List ℕ) × (b : List ℕ) × AreBytesOf m a × AreBytesOfAll ms b × (bytes ≡ a ++ b)

-- The program

-- bytes more in a section
abbrev pub IsAppended : Section → List ℕ → List ℕ → List ℕ → List ℕ → List ℕ → Type 0
IsAppended Text more text bytes new_text new_bytes = (new_text ≡ text ++ more) × (new_bytes ≡ bytes)
IsAppended Data more text bytes new_text new_bytes = (new_text ≡ text) × (new_bytes ≡ bytes ++ more)

-- the bytes of text and of data, as far as a layout goes
pub record IsImageOf (l : Layout) (text bytes : List ℕ) : Type 0 where
  pub text_made : AreBytesOfAll l.text text
  pub data_made : AreBytesOfAll l.data_made bytes
  pub text_size : length text ≡ l.progress.text_size
  pub data_size : length bytes ≡ l.progress.data_size
  pub most : l.progress.text_size + l.progress.data_size ≤ 1048576

abbrev pub is_text : Section → Bool
is_text Text = true
is_text Data = false

-- whether a word of text stands at a place
abbrev pub is_word : ℕ → Place → Bool
is_word size place = is_text place.section && (place.offset % 4 == 0) && nat_le (place.offset + 4) size

-- it begins at `_start`, if a word of text stands there, else where text begins
abbrev pub entry_at : ℕ → Option Place → ℕ
entry_at size None = 4096
entry_at size (Some place) = if is_word size place then 4096 + place.offset else 4096

-- text, and data, which has a segment if it has a byte
abbrev pub segments_of : ℕ → List ℕ → List ℕ → List Segment
segments_of size text bytes =
    record { addr = 4096; bytes = text; size = length text; exec = true }
    ∷ (if length bytes == 0 then [] else (record { addr = data_start size; bytes = bytes; size = length bytes; exec = false } ∷ []))

-- a program has the bytes of a layout
pub record IsProgramOf (labels : Labels) (l : Layout) (p : Program) : Type 0 where
  pub text : List ℕ
  pub bytes : List ℕ
  pub image : IsImageOf l text bytes
  pub entry : p.entry ≡ entry_at labels.text_size (labels.places (codes "_start"))
  pub segments : p.segments ≡ segments_of labels.text_size text bytes
