-- Nested transactions.
use Rattle.std.proofs.Common.{List, [], ◌∷◌, ◌++◌, arith}
use Rattle.table.specs.Table.{effect_of}
use Rattle.part_tests.specs.Programs.{commit_twice, abort_within, machine}
use Rattle.part_tests.specs.Examples.{one_set_of}
use Rattle.part_tests.proofs.Played.{Move, HaveRoom, room_empty}
use Rattle.part_tests.proofs.Moves.{core, cores_moves, alone}

abbrev pub nested_moves : List Move
nested_moves = cores_moves 3 ++ alone 0 ++ core 0 ∷ []

abbrev pub inner_moves : List Move
inner_moves = nested_moves ++ core 0 ∷ []

abbrev pub outer_moves : List Move
outer_moves = nested_moves ++ core 0 ∷ core 0 ∷ []

abbrev pub within_moves : List Move
within_moves = cores_moves 4 ++ alone 0 ++ cores_moves 4

-- Room for what is asked for

pub nested_room : HaveRoom (one_set_of 4) (machine 1 commit_twice) nested_moves
unfolding effect_of
nested_room = (room_empty 4 256 (omega arith), tt)

pub inner_room : HaveRoom (one_set_of 4) (machine 1 commit_twice) inner_moves
unfolding effect_of
inner_room = (room_empty 4 256 (omega arith), tt)

pub outer_room : HaveRoom (one_set_of 4) (machine 1 commit_twice) outer_moves
unfolding effect_of
outer_room = (room_empty 4 256 (omega arith), tt)

pub within_room : HaveRoom (one_set_of 4) (machine 1 abort_within) within_moves
unfolding effect_of
within_room = (room_empty 4 256 (omega arith), tt)
