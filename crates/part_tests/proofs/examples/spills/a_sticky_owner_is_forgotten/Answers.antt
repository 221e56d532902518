use Rattle.std.proofs.Common.{refl}
use Rattle.table.specs.Table.{effect_of}
use Rattle.part_tests.specs.Programs.{load_store_and_commit}
use Rattle.part_tests.proofs.Played.{reached}
use Rattle.part_tests.proofs.SpillTraces.{marked_put_moves, answered_moves, forgotten_moves, marked_put_room, answered_room, forgotten_room}
use Rattle.part_tests.proofs.examples.spills.a_sticky_owner_is_forgotten.Goals as goal

pub returns-clause-sticky : goal.returns-clause-sticky
unfolding effect_of
returns-clause-sticky c = reached 4 2 load_store_and_commit marked_put_moves _ _ refl marked_put_room refl (refl, refl, refl)

pub returns-clause-acknowledged : goal.returns-clause-acknowledged
unfolding effect_of
returns-clause-acknowledged c = reached 4 2 load_store_and_commit answered_moves _ _ refl answered_room refl (refl, refl, refl)

pub returns-clause-forgotten : goal.returns-clause-forgotten
unfolding effect_of
returns-clause-forgotten c = reached 4 2 load_store_and_commit forgotten_moves _ _ refl forgotten_room refl (refl, λ h. refl, refl, refl, refl)
