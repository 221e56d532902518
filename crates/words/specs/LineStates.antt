-- The states of a cache's line.
use Rattle.std.specs.Prelude.{Bool, true, false}
use Rattle.words.specs.declared.message.LineState.{LineState}
use Rattle.words.specs.declared.message.LineState.TheVariants.{Shared, Exclusive, Modified}

-- whether no other cache may hold the block: E and M
abbrev pub is_owned : LineState → Bool
is_owned Shared = false
is_owned Exclusive = true
is_owned Modified = true
