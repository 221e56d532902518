-- A line of a cache.
use Rattle.std.specs.Prelude.{ℕ, Bool, true, ◌||◌, cond, List, slice_set}
use Rattle.words.specs.declared.entry.Width.{Width}
use Rattle.cache.specs.declared.line.Line.{Line}
use Rattle.words.specs.declared.message.LineState.{LineState}
use Rattle.words.specs.declared.message.LineState.TheVariants.{Modified}
use Rattle.words.specs.declared.marks.Marks.{Marks}
use Rattle.words.specs.LineStates.{is_owned}
use Rattle.words.specs.Marks.{no_marks}
use Rattle.cache.specs.declared.ways.Victim.{Victim}
use Rattle.cache.specs.declared.ways.Victim.TheVariants.{Drop, WriteBack}
use Rattle.cache.specs.Bytes.{block_with}

-- a line as it is filled: neither read nor written yet
abbrev pub filled : ℕ → List ℕ → LineState → Bool → Line
filled block content state overflowed = record { block = block; content = content; state = state; marks = record no_marks { overflowed = overflowed } }

abbrev pub marked_read : Line → Line
marked_read l = record l { marks = record l.marks { read = true } }

abbrev pub marked_written : Line → Line
marked_written l = record l { marks = record l.marks { written = true } }

-- with the low bytes of a value stored at an address of the block
abbrev pub stored : ℕ → Width → ℕ → Line → Line
stored addr width v l = record l { content = block_with l.content addr width v }

abbrev pub without_marks : Line → Line
without_marks l = record l { marks = no_marks }

-- marks with those of what the running transaction does to the line: it reads it, or writes it, or both
abbrev pub used_marks : Bool → Bool → Marks → Marks
used_marks reads writes k = record k { read = reads || k.read; written = writes || k.written }

-- modified, with another word in its place, and marked as read, or as written, if these say so
abbrev pub put_into : ℕ → ℕ → Bool → Bool → Line → Line
put_into word value reads writes l = record l { content = slice_set l.content word value; state = Modified; marks = used_marks reads writes l.marks }

abbrev pub in_state : LineState → Line → Line
in_state state l = record l { state = state }

-- a shared line is dropped, any other written back
abbrev pub put_out_by : LineState → Line → Victim
put_out_by state l = cond (is_owned state) (WriteBack l) (Drop l)
