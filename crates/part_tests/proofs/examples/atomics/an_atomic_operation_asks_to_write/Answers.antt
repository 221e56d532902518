use Rattle.std.proofs.Common.{refl}
use Rattle.table.specs.Table.{effect_of}
use Rattle.part_tests.specs.Programs.{load_and_add}
use Rattle.part_tests.proofs.Played.{reached}
use Rattle.part_tests.proofs.AtomicTraces.{asked_moves, added_moves, asked_room, added_room}
use Rattle.part_tests.proofs.examples.atomics.an_atomic_operation_asks_to_write.Goals as goal

pub returns-clause-asked : goal.returns-clause-asked
unfolding effect_of
returns-clause-asked c = reached 4 2 load_and_add asked_moves _ _ refl asked_room refl (refl, refl)

pub returns-clause-added : goal.returns-clause-added
unfolding effect_of
returns-clause-added c = reached 4 2 load_and_add added_moves _ _ refl added_room refl (refl, refl, refl, refl)
