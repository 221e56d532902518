-- How a block is shared, and handed from hart to hart.
use Rattle.std.proofs.Common.{ℕ, List, [], ◌∷◌, ◌++◌, arith}
use Rattle.table.specs.Table.{effect_of}
use Rattle.part_tests.specs.Programs.{load_and_store, store_number, load_then_store, store_and_upgrade, machine}
use Rattle.part_tests.specs.Examples.{one_set_of}
use Rattle.part_tests.proofs.Played.{Move, HaveRoom, room_empty, only_none, only_put, room_beside}
use Rattle.part_tests.proofs.Moves.{move, deliver, evict, core, cores_moves, alone, another}

abbrev pub silent_moves : List Move
silent_moves = core 0 ∷ alone 0 ++ core 0 ∷ core 0 ∷ []

abbrev pub shared_moves : List Move
shared_moves = silent_moves ++ core 1 ∷ another 1 ++ core 1 ∷ []

abbrev pub overtaken_moves : List Move
overtaken_moves = silent_moves ++ evict 0 256 (0 ∷ []) ∷ core 1 ∷ move 1 (1 ∷ []) ∷ deliver 1 (1 ∷ 2 ∷ []) ∷ deliver 2 (2 ∷ []) ∷ deliver 0 [] ∷ deliver 1 [] ∷ deliver 2 (1 ∷ []) ∷ deliver 1 [] ∷ deliver 0 (0 ∷ []) ∷ deliver 0 [] ∷ core 1 ∷ []

abbrev pub exclusive_moves : List Move
exclusive_moves = core 0 ∷ alone 0

abbrev pub written_back_moves : List Move
written_back_moves = exclusive_moves ++ core 0 ∷ core 0 ∷ evict 0 256 (0 ∷ []) ∷ []

abbrev pub returned_moves : List Move
returned_moves = written_back_moves ++ core 0 ∷ deliver 0 (0 ∷ []) ∷ deliver 0 [] ∷ []

abbrev pub untouched_moves : List Move
untouched_moves = core 0 ∷ alone 0 ++ core 0 ∷ core 0 ∷ core 1 ∷ another 1 ++ core 1 ∷ []

abbrev pub outdated_moves : List Move
outdated_moves = core 0 ∷ alone 0 ++ core 0 ∷ evict 0 256 (0 ∷ []) ∷ core 1 ∷ move 1 (1 ∷ []) ∷ deliver 1 (1 ∷ 2 ∷ []) ∷ deliver 2 (2 ∷ []) ∷ deliver 2 [] ∷ deliver 1 (1 ∷ []) ∷ deliver 1 [] ∷ core 1 ∷ evict 1 256 (1 ∷ []) ∷ deliver 1 (1 ∷ []) ∷ deliver 1 [] ∷ deliver 0 (0 ∷ []) ∷ deliver 0 [] ∷ []

abbrev pub load_moves : ℕ → List Move
load_moves i = core i ∷ alone i ++ core i ∷ []

abbrev pub forwarded_moves : List Move
forwarded_moves = silent_moves ++ cores_moves 2 ++ core 1 ∷ another 1 ++ core 1 ∷ load_moves 2 ++ move 0 (0 ∷ []) ∷ deliver 0 (0 ∷ 1 ∷ 2 ∷ []) ∷ []

abbrev pub upgraded_moves : List Move
upgraded_moves = forwarded_moves ++ deliver 1 (1 ∷ []) ∷ deliver 2 (2 ∷ []) ∷ deliver 1 [] ∷ deliver 2 [] ∷ deliver 0 (0 ∷ []) ∷ deliver 0 [] ∷ []

abbrev pub stored_moves : List Move
stored_moves = upgraded_moves ++ core 0 ∷ []

-- Room for what is asked for

pub silent_room : HaveRoom (one_set_of 4) (machine 2 load_and_store) silent_moves
unfolding effect_of
silent_room = (room_empty 4 256 (omega arith), tt)

pub shared_room : HaveRoom (one_set_of 4) (machine 2 load_and_store) shared_moves
unfolding effect_of
shared_room = (room_empty 4 256 (omega arith), (room_empty 4 256 (omega arith), tt))

pub overtaken_room : HaveRoom (one_set_of 4) (machine 2 load_and_store) overtaken_moves
unfolding effect_of
overtaken_room = (room_empty 4 256 (omega arith), (room_empty 4 256 (omega arith), tt))

pub exclusive_room : HaveRoom (one_set_of 4) (machine 2 load_then_store) exclusive_moves
unfolding effect_of
exclusive_room = (room_empty 4 256 (omega arith), tt)

pub written_back_room : HaveRoom (one_set_of 4) (machine 2 load_then_store) written_back_moves
unfolding effect_of
written_back_room = (room_empty 4 256 (omega arith), tt)

pub returned_room : HaveRoom (one_set_of 4) (machine 2 load_then_store) returned_moves
unfolding effect_of
returned_room = (room_empty 4 256 (omega arith), (room_beside 4 256 256 _ (omega arith) (only_put 256 _ _ (only_put 256 _ _ (only_put 256 _ _ (only_none 256)))), tt))

pub untouched_room : HaveRoom (one_set_of 4) (machine 2 load_then_store) untouched_moves
unfolding effect_of
untouched_room = (room_empty 4 256 (omega arith), (room_empty 4 256 (omega arith), tt))

pub outdated_room : HaveRoom (one_set_of 4) (machine 2 store_number) outdated_moves
unfolding effect_of
outdated_room = (room_empty 4 256 (omega arith), (room_empty 4 256 (omega arith), tt))

pub forwarded_room : HaveRoom (one_set_of 4) (machine 3 store_and_upgrade) forwarded_moves
unfolding effect_of
forwarded_room = (room_empty 4 256 (omega arith), (room_empty 4 256 (omega arith), (room_empty 4 256 (omega arith), (room_beside 4 256 256 _ (omega arith) (only_put 256 _ _ (only_put 256 _ _ (only_put 256 _ _ (only_put 256 _ _ (only_put 256 _ _ (only_none 256)))))), tt))))

pub upgraded_room : HaveRoom (one_set_of 4) (machine 3 store_and_upgrade) upgraded_moves
unfolding effect_of
upgraded_room = (room_empty 4 256 (omega arith), (room_empty 4 256 (omega arith), (room_empty 4 256 (omega arith), (room_beside 4 256 256 _ (omega arith) (only_put 256 _ _ (only_put 256 _ _ (only_put 256 _ _ (only_put 256 _ _ (only_put 256 _ _ (only_none 256)))))), tt))))

pub stored_room : HaveRoom (one_set_of 4) (machine 3 store_and_upgrade) stored_moves
unfolding effect_of
stored_room = (room_empty 4 256 (omega arith), (room_empty 4 256 (omega arith), (room_empty 4 256 (omega arith), (room_beside 4 256 256 _ (omega arith) (only_put 256 _ _ (only_put 256 _ _ (only_put 256 _ _ (only_put 256 _ _ (only_put 256 _ _ (only_none 256)))))), tt))))
