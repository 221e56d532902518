use Rattle.std.proofs.Common.{refl}
use Rattle.table.specs.Table.{effect_of}
use Rattle.part_tests.specs.Programs.{store_and_load}
use Rattle.part_tests.proofs.Played.{reached}
use Rattle.part_tests.proofs.SpillTraces.{refilled_moves, given_up_again_moves, committed_moves, refilled_room, given_up_again_room, committed_room}
use Rattle.part_tests.proofs.examples.spills.a_sticky_owner_is_given_the_block_to_write.Goals as goal

pub returns-clause-refilled : goal.returns-clause-refilled
unfolding effect_of
returns-clause-refilled c = reached 4 1 store_and_load refilled_moves _ _ refl refilled_room refl (refl, refl)

pub returns-clause-given_up : goal.returns-clause-given_up
unfolding effect_of
returns-clause-given_up c = reached 4 1 store_and_load given_up_again_moves _ _ refl given_up_again_room refl (refl, refl)

pub returns-clause-committed : goal.returns-clause-committed
unfolding effect_of
returns-clause-committed c = reached 4 1 store_and_load committed_moves _ _ refl committed_room refl (refl, refl, refl, refl)
