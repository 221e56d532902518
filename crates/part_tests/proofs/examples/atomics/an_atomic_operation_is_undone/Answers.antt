use Rattle.std.proofs.Common.{refl}
use Rattle.table.specs.Table.{effect_of}
use Rattle.part_tests.specs.Programs.{add_twice_and_abort}
use Rattle.part_tests.proofs.Played.{reached}
use Rattle.part_tests.proofs.AtomicTraces.{added_twice_moves, taken_back_moves, added_twice_room, taken_back_room}
use Rattle.part_tests.proofs.examples.atomics.an_atomic_operation_is_undone.Goals as goal

pub returns-clause-added : goal.returns-clause-added
unfolding effect_of
returns-clause-added c = reached 4 1 add_twice_and_abort added_twice_moves _ _ refl added_twice_room refl (refl, refl, refl, refl, refl)

pub returns-clause-undone : goal.returns-clause-undone
unfolding effect_of
returns-clause-undone c = reached 4 1 add_twice_and_abort taken_back_moves _ _ refl taken_back_room refl (refl, refl, refl, refl)
