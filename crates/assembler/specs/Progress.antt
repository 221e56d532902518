-- How far a pass has come: the section in which the next line stands, and the bytes of each so far.
use Rattle.std.specs.Prelude.{ℕ, ◌+◌, nat_le, if◌then◌else◌, Option, Some, None}
use Rattle.statements.specs.declared.place.Place.{Place}
use Rattle.statements.specs.declared.place.Section.{Section}
use Rattle.statements.specs.declared.place.Section.TheVariants.{Text, Data}
use Rattle.assembler.specs.declared.progress.Progress.{Progress}

-- where the next line stands
abbrev pub offset_in : Section → Progress → ℕ
offset_in Text p = p.text_size
offset_in Data p = p.data_size

abbrev pub here : Progress → Place
here p = record { section = p.section; offset = offset_in p.section p }

abbrev pub start : Progress
start = record { section = Text; text_size = 0; data_size = 0 }

abbrev pub with_more : Section → ℕ → Progress → Progress
with_more Text size p = record { section = p.section; text_size = p.text_size + size; data_size = p.data_size }
with_more Data size p = record { section = p.section; text_size = p.text_size; data_size = p.data_size + size }

-- text and data together have at most 1,048,576 bytes
abbrev pub grown : ℕ → Progress → Option Progress
grown size p = if nat_le (p.text_size + p.data_size + size) 1048576 then Some (with_more p.section size p) else None
