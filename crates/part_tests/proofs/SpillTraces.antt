-- Lines that are given up.
use Rattle.std.proofs.Common.{ℕ, zero, suc, true, ◌≡◌, nat_lt, Option, Some, None, List, [], ◌∷◌, ◌++◌, refl, arith, eqb-true}
use Rattle.words.specs.declared.entry.Step.TheVariants.{Core}
use Rattle.flat.specs.Bytes.{put_at}
use Rattle.protocol.specs.Messages.{Message}
use Rattle.protocol.specs.Network.{Network, LiesBelow}
use Rattle.table.specs.Table.{effect_of}
use Rattle.part_tests.specs.Programs.{store_and_abort, store_and_load, load_then_store, load_store_and_commit, store_to_both, store_crosswise, machine}
use Rattle.part_tests.specs.Examples.{one_set_of}
use Rattle.part_tests.proofs.Played.{Move, last_of, HaveRoom, room_empty, only_none, only_put, room_beside, full_of}
use Rattle.part_tests.proofs.Moves.{move, deliver, evict, core, cores_moves, alone, another, store_moves, gives_up_moves}
use Rattle.part_tests.proofs.SharingTraces.{untouched_moves}
use Rattle.part_tests.proofs.ConflictTraces.{own_store_moves}

abbrev pub spilled_moves : List Move
spilled_moves = store_moves 0 ++ gives_up_moves ++ core 1 ∷ core 1 ∷ another 1

abbrev pub undone_moves : List Move
undone_moves = spilled_moves ++ core 0 ∷ alone 0 ++ core 0 ∷ core 0 ∷ []

abbrev pub refilled_moves : List Move
refilled_moves = store_moves 0 ++ gives_up_moves ++ alone 0

abbrev pub given_up_again_moves : List Move
given_up_again_moves = refilled_moves ++ gives_up_moves

abbrev pub committed_moves : List Move
committed_moves = given_up_again_moves ++ alone 0 ++ core 0 ∷ core 0 ∷ []

abbrev pub marked_put_moves : List Move
marked_put_moves = core 0 ∷ alone 0 ++ cores_moves 3 ++ gives_up_moves

abbrev pub answered_moves : List Move
answered_moves = marked_put_moves ++ core 0 ∷ core 1 ∷ move 1 (0 ∷ []) ∷ deliver 0 (0 ∷ 1 ∷ []) ∷ deliver 1 (1 ∷ []) ∷ []

abbrev pub forgotten_moves : List Move
forgotten_moves = answered_moves ++ deliver 1 [] ∷ deliver 0 (0 ∷ []) ∷ deliver 0 [] ∷ core 1 ∷ []

abbrev pub dropped_moves : List Move
dropped_moves = untouched_moves ++ core 0 ∷ evict 0 256 [] ∷ []

abbrev pub still_refused_moves : List Move
still_refused_moves = dropped_moves ++ core 1 ∷ core 1 ∷ another 1

abbrev pub crowding_moves : List Move
crowding_moves = own_store_moves 0 ++ core 0 ∷ core 0 ∷ core 0 ∷ []

abbrev pub crowded_moves : List Move
crowded_moves = crowding_moves ++ record { step = Core 0; keys = 0 ∷ []; victim = Some 256 } ∷ []

abbrev pub second_put_moves : List Move
second_put_moves = cores_moves 2 ++ alone 0 ++ core 0 ∷ alone 0 ++ core 0 ∷ evict 0 257 (0 ∷ []) ∷ evict 0 256 [] ∷ []

abbrev pub later_put_moves : List Move
later_put_moves = second_put_moves ++ deliver 0 (0 ∷ []) ∷ deliver 0 [] ∷ evict 0 256 (0 ∷ []) ∷ []

-- Room for what is asked for

pub spilled_room : HaveRoom (one_set_of 4) (machine 2 store_and_abort) spilled_moves
unfolding effect_of
spilled_room = (room_empty 4 256 (omega arith), (room_empty 4 256 (omega arith), tt))

pub undone_room : HaveRoom (one_set_of 4) (machine 2 store_and_abort) undone_moves
unfolding effect_of
undone_room = (room_empty 4 256 (omega arith), (room_empty 4 256 (omega arith), (room_beside 4 256 256 _ (omega arith) (only_put 256 _ _ (only_put 256 _ _ (only_put 256 _ _ (only_none 256)))), tt)))

pub refilled_room : HaveRoom (one_set_of 4) (machine 1 store_and_load) refilled_moves
unfolding effect_of
refilled_room = (room_empty 4 256 (omega arith), (room_beside 4 256 256 _ (omega arith) (only_put 256 _ _ (only_put 256 _ _ (only_put 256 _ _ (only_none 256)))), tt))

pub given_up_again_room : HaveRoom (one_set_of 4) (machine 1 store_and_load) given_up_again_moves
unfolding effect_of
given_up_again_room = (room_empty 4 256 (omega arith), (room_beside 4 256 256 _ (omega arith) (only_put 256 _ _ (only_put 256 _ _ (only_put 256 _ _ (only_none 256)))), tt))

pub committed_room : HaveRoom (one_set_of 4) (machine 1 store_and_load) committed_moves
unfolding effect_of
committed_room = (room_empty 4 256 (omega arith), (room_beside 4 256 256 _ (omega arith) (only_put 256 _ _ (only_put 256 _ _ (only_put 256 _ _ (only_none 256)))), (room_beside 4 256 256 _ (omega arith) (only_put 256 _ _ (only_put 256 _ _ (only_put 256 _ _ (only_put 256 _ _ (only_put 256 _ _ (only_none 256)))))), tt)))

pub marked_put_room : HaveRoom (one_set_of 4) (machine 2 load_store_and_commit) marked_put_moves
unfolding effect_of
marked_put_room = (room_empty 4 256 (omega arith), tt)

pub answered_room : HaveRoom (one_set_of 4) (machine 2 load_store_and_commit) answered_moves
unfolding effect_of
answered_room = (room_empty 4 256 (omega arith), (room_empty 4 256 (omega arith), tt))

pub forgotten_room : HaveRoom (one_set_of 4) (machine 2 load_store_and_commit) forgotten_moves
unfolding effect_of
forgotten_room = (room_empty 4 256 (omega arith), (room_empty 4 256 (omega arith), tt))

pub dropped_room : HaveRoom (one_set_of 4) (machine 2 load_then_store) dropped_moves
unfolding effect_of
dropped_room = (room_empty 4 256 (omega arith), (room_empty 4 256 (omega arith), tt))

-- a message under one of the first keys leaves those beyond free
put_low : (n k : ℕ) (m : Option Message) (net : Network) → nat_lt k n ≡ true → LiesBelow n net → LiesBelow n (put_at k m net)
put_low n k m net low below key from = grind (arith, eqb-true, below)

-- all messages so far had key 0 or 1
beyond : LiesBelow 2 (last_of (machine 2 load_then_store) dropped_moves).net
unfolding effect_of
beyond = put_low 2 _ _ _ refl (put_low 2 _ _ _ refl (put_low 2 _ _ _ refl (put_low 2 _ _ _ refl (put_low 2 _ _ _ refl (put_low 2 _ _ _ refl (put_low 2 _ _ _ refl (put_low 2 _ _ _ refl (put_low 2 _ _ _ refl (put_low 2 _ _ _ refl (put_low 2 _ _ _ refl (put_low 2 _ _ _ refl (put_low 2 _ _ _ refl (put_low 2 _ _ _ refl (put_low 2 _ _ _ refl (put_low 2 _ _ _ refl (λ _ _. refl))))))))))))))))

-- no message is in flight then
pub no_message : (key : ℕ) → (last_of (machine 2 load_then_store) dropped_moves).net key ≡ None
unfolding effect_of
no_message zero = refl
no_message (suc zero) = refl
no_message (suc (suc key)) = beyond (suc (suc key)) (omega arith)

pub still_refused_room : HaveRoom (one_set_of 4) (machine 2 load_then_store) still_refused_moves
unfolding effect_of
still_refused_room = (room_empty 4 256 (omega arith), (room_empty 4 256 (omega arith), (room_beside 4 256 256 _ (omega arith) (only_put 256 _ _ (only_put 256 _ _ (only_put 256 _ _ (only_none 256)))), tt)))

-- a cache of one line is full with it
pub crowded_room : HaveRoom (one_set_of 1) (machine 1 store_crosswise) crowded_moves
unfolding effect_of
crowded_room = (room_empty 1 256 (omega arith), ((full_of 256 257 ((last_of (machine 1 store_crosswise) crowding_moves).harts 0).lines refl, (refl, refl)), tt))

pub second_put_room : HaveRoom (one_set_of 4) (machine 1 store_to_both) second_put_moves
unfolding effect_of
second_put_room = (room_empty 4 257 (omega arith), (room_beside 4 257 256 _ (omega arith) (only_put 257 _ _ (only_put 257 _ _ (only_none 257))), tt))

pub later_put_room : HaveRoom (one_set_of 4) (machine 1 store_to_both) later_put_moves
unfolding effect_of
later_put_room = (room_empty 4 257 (omega arith), (room_beside 4 257 256 _ (omega arith) (only_put 257 _ _ (only_put 257 _ _ (only_none 257))), tt))
