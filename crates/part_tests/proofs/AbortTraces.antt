-- Aborts.
use Rattle.std.proofs.Common.{List, [], ◌∷◌, ◌++◌, arith}
use Rattle.table.specs.Table.{effect_of}
use Rattle.part_tests.specs.Programs.{store_and_abort, store_again_and_abort, machine}
use Rattle.part_tests.specs.Examples.{one_set_of}
use Rattle.part_tests.proofs.Played.{Move, HaveRoom, room_empty, only_none, only_put, room_beside}
use Rattle.part_tests.proofs.Moves.{core, alone, another, store_moves, gives_up_moves}

abbrev pub exit_moves : List Move
exit_moves = core 0 ∷ core 0 ∷ core 0 ∷ core 0 ∷ []

abbrev pub trap_moves : List Move
trap_moves = core 0 ∷ core 0 ∷ core 0 ∷ core 0 ∷ core 0 ∷ []

abbrev pub aborting_moves : List Move
aborting_moves = store_moves 0 ++ core 0 ∷ core 1 ∷ core 1 ∷ another 1 ++ core 0 ∷ core 0 ∷ []

abbrev pub stored_again_moves : List Move
stored_again_moves = store_moves 0 ++ gives_up_moves ++ alone 0 ++ core 0 ∷ []

abbrev pub undone_twice_moves : List Move
undone_twice_moves = stored_again_moves ++ core 0 ∷ core 0 ∷ core 0 ∷ core 0 ∷ []

-- Room for what is asked for

pub aborting_room : HaveRoom (one_set_of 4) (machine 2 store_and_abort) aborting_moves
unfolding effect_of
aborting_room = (room_empty 4 256 (omega arith), (room_empty 4 256 (omega arith), tt))

pub stored_again_room : HaveRoom (one_set_of 4) (machine 1 store_again_and_abort) stored_again_moves
unfolding effect_of
stored_again_room = (room_empty 4 256 (omega arith), (room_beside 4 256 256 _ (omega arith) (only_put 256 _ _ (only_put 256 _ _ (only_put 256 _ _ (only_none 256)))), tt))

pub undone_twice_room : HaveRoom (one_set_of 4) (machine 1 store_again_and_abort) undone_twice_moves
unfolding effect_of
undone_twice_room = (room_empty 4 256 (omega arith), (room_beside 4 256 256 _ (omega arith) (only_put 256 _ _ (only_put 256 _ _ (only_put 256 _ _ (only_none 256)))), tt))
