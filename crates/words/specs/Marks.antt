-- The marks of a cache's line, and the requests that a hart refuses by them.
use Rattle.std.specs.Prelude.{Bool, false, ◌||◌, Option, Some, None}
use Rattle.words.specs.declared.marks.Marks.{Marks}
use Rattle.words.specs.declared.message.Kind.{Kind}
use Rattle.words.specs.declared.message.Kind.TheVariants.{Read, Write}

abbrev pub no_marks : Marks
no_marks = record { read = false; written = false; overflowed = false }

abbrev pub is_marked : Marks → Bool
is_marked m = m.read || (m.written || m.overflowed)

-- whether a hart refuses a request, by the marks of its line of the block, if it has one: a read of what it has written, a write of
-- what it has read or written. An overflowed line counts as both, and without a line the overflow bit decides
abbrev pub refuses : Option Marks → Bool → Kind → Bool
refuses None overflow kind = overflow
refuses (Some m) overflow Read = m.written || m.overflowed
refuses (Some m) overflow Write = is_marked m
