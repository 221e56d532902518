-- Atomic operations.
use Rattle.std.proofs.Common.{List, [], ◌∷◌, ◌++◌, arith}
use Rattle.table.specs.Table.{effect_of}
use Rattle.part_tests.specs.Programs.{load_and_add, add_twice_and_abort, machine}
use Rattle.part_tests.specs.Examples.{one_set_of}
use Rattle.part_tests.proofs.Played.{Move, HaveRoom, room_empty, only_none, only_put, room_beside}
use Rattle.part_tests.proofs.Moves.{move, core, cores_moves, alone, another, store_moves}

abbrev pub both_load_moves : List Move
both_load_moves = core 0 ∷ alone 0 ++ core 0 ∷ core 1 ∷ another 1 ++ core 1 ∷ []

abbrev pub asked_moves : List Move
asked_moves = both_load_moves ++ move 0 (0 ∷ []) ∷ []

abbrev pub added_moves : List Move
added_moves = both_load_moves ++ another 0 ++ core 0 ∷ []

abbrev pub added_twice_moves : List Move
added_twice_moves = store_moves 0 ++ core 0 ∷ []

abbrev pub taken_back_moves : List Move
taken_back_moves = added_twice_moves ++ cores_moves 3

-- Room for what is asked for

pub asked_room : HaveRoom (one_set_of 4) (machine 2 load_and_add) asked_moves
unfolding effect_of
asked_room = (room_empty 4 256 (omega arith), (room_empty 4 256 (omega arith), (room_beside 4 256 256 _ (omega arith) (only_put 256 _ _ (only_put 256 _ _ (only_put 256 _ _ (only_none 256)))), tt)))

pub added_room : HaveRoom (one_set_of 4) (machine 2 load_and_add) added_moves
unfolding effect_of
added_room = (room_empty 4 256 (omega arith), (room_empty 4 256 (omega arith), (room_beside 4 256 256 _ (omega arith) (only_put 256 _ _ (only_put 256 _ _ (only_put 256 _ _ (only_none 256)))), tt)))

pub added_twice_room : HaveRoom (one_set_of 4) (machine 1 add_twice_and_abort) added_twice_moves
unfolding effect_of
added_twice_room = (room_empty 4 256 (omega arith), tt)

pub taken_back_room : HaveRoom (one_set_of 4) (machine 1 add_twice_and_abort) taken_back_moves
unfolding effect_of
taken_back_room = (room_empty 4 256 (omega arith), tt)
