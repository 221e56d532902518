-- Conflicts.
use Rattle.std.proofs.Common.{ℕ, List, [], ◌∷◌, ◌++◌, arith}
use Rattle.table.specs.Table.{effect_of}
use Rattle.part_tests.specs.Programs.{store_and_commit, load_then_store, store_crosswise, machine}
use Rattle.part_tests.specs.Examples.{one_set_of}
use Rattle.part_tests.proofs.Played.{Move, HaveRoom, room_empty, only_none, only_put, room_beside}
use Rattle.part_tests.proofs.Moves.{move, deliver, core, alone, another, store_moves}
use Rattle.part_tests.proofs.SharingTraces.{load_moves}

abbrev pub refused_moves : List Move
refused_moves = store_moves 0 ++ core 1 ∷ core 1 ∷ another 1

abbrev pub granted_moves : List Move
granted_moves = refused_moves ++ core 0 ∷ another 1 ++ core 1 ∷ []

abbrev pub own_store_moves : ℕ → List Move
own_store_moves i = core i ∷ core i ∷ core i ∷ core i ∷ alone i ++ core i ∷ []

abbrev pub crossed_moves : List Move
crossed_moves = own_store_moves 0 ++ own_store_moves 1 ++ core 0 ∷ core 0 ∷ core 0 ∷ another 0 ++ core 1 ∷ core 1 ∷ core 1 ∷ another 1 ++ core 1 ∷ core 1 ∷ []

abbrev pub resolved_moves : List Move
resolved_moves = crossed_moves ++ another 0 ++ core 0 ∷ core 0 ∷ core 1 ∷ []

abbrev pub sharers_moves : List Move
sharers_moves = load_moves 0 ++ core 1 ∷ another 1 ++ core 1 ∷ load_moves 2 ++ load_moves 3 ++ core 3 ∷ core 3 ∷ core 0 ∷ core 0 ∷ move 0 (0 ∷ []) ∷ deliver 0 (0 ∷ 1 ∷ 2 ∷ 3 ∷ []) ∷ deliver 1 (1 ∷ []) ∷ deliver 2 (2 ∷ []) ∷ deliver 3 (3 ∷ []) ∷ deliver 1 [] ∷ deliver 2 [] ∷ deliver 3 [] ∷ deliver 0 (0 ∷ []) ∷ deliver 0 [] ∷ []

-- Room for what is asked for

pub refused_room : HaveRoom (one_set_of 4) (machine 2 store_and_commit) refused_moves
unfolding effect_of
refused_room = (room_empty 4 256 (omega arith), (room_empty 4 256 (omega arith), tt))

pub granted_room : HaveRoom (one_set_of 4) (machine 2 store_and_commit) granted_moves
unfolding effect_of
granted_room = (room_empty 4 256 (omega arith), (room_empty 4 256 (omega arith), (room_empty 4 256 (omega arith), tt)))

pub crossed_room : HaveRoom (one_set_of 4) (machine 2 store_crosswise) crossed_moves
unfolding effect_of
crossed_room = (room_empty 4 256 (omega arith), (room_empty 4 257 (omega arith), (room_beside 4 256 257 _ (omega arith) (only_put 256 _ _ (only_put 256 _ _ (only_none 256))), (room_beside 4 257 256 _ (omega arith) (only_put 257 _ _ (only_put 257 _ _ (only_none 257))), tt))))

pub resolved_room : HaveRoom (one_set_of 4) (machine 2 store_crosswise) resolved_moves
unfolding effect_of
resolved_room = (room_empty 4 256 (omega arith), (room_empty 4 257 (omega arith), (room_beside 4 256 257 _ (omega arith) (only_put 256 _ _ (only_put 256 _ _ (only_none 256))), (room_beside 4 257 256 _ (omega arith) (only_put 257 _ _ (only_put 257 _ _ (only_none 257))), (room_beside 4 256 257 _ (omega arith) (only_put 256 _ _ (only_put 256 _ _ (only_none 256))), tt)))))

pub sharers_room : HaveRoom (one_set_of 4) (machine 4 load_then_store) sharers_moves
unfolding effect_of
sharers_room = (room_empty 4 256 (omega arith), (room_empty 4 256 (omega arith), (room_empty 4 256 (omega arith), (room_empty 4 256 (omega arith), (room_beside 4 256 256 _ (omega arith) (only_put 256 _ _ (only_put 256 _ _ (only_put 256 _ _ (only_put 256 _ _ (only_none 256))))), tt)))))
