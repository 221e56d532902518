use Rattle.std.proofs.Common.{refl}
use Rattle.table.specs.Table.{effect_of}
use Rattle.part_tests.specs.Programs.{store_again_and_abort}
use Rattle.part_tests.proofs.Played.{reached}
use Rattle.part_tests.proofs.AbortTraces.{stored_again_moves, undone_twice_moves, stored_again_room, undone_twice_room}
use Rattle.part_tests.proofs.examples.aborts.the_newest_record_is_undone_first.Goals as goal

pub returns-clause-logged : goal.returns-clause-logged
unfolding effect_of
returns-clause-logged c = reached 4 1 store_again_and_abort stored_again_moves _ _ refl stored_again_room refl (refl, refl, refl, refl)

pub returns-clause-undone : goal.returns-clause-undone
unfolding effect_of
returns-clause-undone c = reached 4 1 store_again_and_abort undone_twice_moves _ _ refl undone_twice_room refl (refl, refl, refl, refl)
