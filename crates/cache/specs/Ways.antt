-- The ways of one set, each free or with a line.
use Rattle.std.specs.Prelude.{ℕ, Bool, true, false, not, ◌==◌, Option, Some, None, List, position, is_some, cond, option_and_then, unwrap_or, get_or}
use Rattle.words.specs.Marks.{is_marked}
use Rattle.cache.specs.declared.line.Line.{Line}
use Rattle.cache.specs.declared.ways.Victim.{Victim}
use Rattle.cache.specs.declared.ways.Victim.TheVariants.{Free}
use Rattle.cache.specs.Line.{put_out_by}

-- whether a way holds the block
abbrev pub holds : ℕ → Option Line → Bool
holds b None = false
holds b (Some l) = l.block == b

-- whether a way is free
abbrev pub is_free : Option Line → Bool
is_free None = true
is_free (Some l) = false

-- whether a way has a line without marks
abbrev pub is_unmarked : Option Line → Bool
is_unmarked None = false
is_unmarked (Some l) = not (is_marked l.marks)

-- whether one of the ways has a line
abbrev pub has_line : List (Option Line) → Bool
has_line ways = is_some (position is_some ways)

-- the line of the block, if one of the ways holds it
abbrev pub line_in : ℕ → List (Option Line) → Option Line
line_in b ways = option_and_then (λ way. get_or ways way None) (position (holds b) ways)

-- what becomes of a way's line that has to go
abbrev pub put_out : Option Line → Victim
put_out None = Free
put_out (Some l) = put_out_by l.state l

-- nothing if a way is free; else the lowest line without marks, or the first line if all have marks
abbrev pub victim_in : List (Option Line) → Victim
victim_in ways = cond (is_some (position is_free ways)) Free (put_out (get_or ways (unwrap_or (position is_unmarked ways) 0) None))
