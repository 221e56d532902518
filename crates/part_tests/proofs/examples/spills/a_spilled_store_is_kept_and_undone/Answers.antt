use Rattle.std.proofs.Common.{refl}
use Rattle.table.specs.Table.{effect_of}
use Rattle.part_tests.specs.Programs.{store_and_abort}
use Rattle.part_tests.proofs.Played.{reached}
use Rattle.part_tests.proofs.SpillTraces.{spilled_moves, undone_moves, spilled_room, undone_room}
use Rattle.part_tests.proofs.examples.spills.a_spilled_store_is_kept_and_undone.Goals as goal

pub returns-clause-spilled : goal.returns-clause-spilled
unfolding effect_of
returns-clause-spilled c = reached 4 2 store_and_abort spilled_moves _ _ refl spilled_room refl (refl, refl, refl, refl, refl)

pub returns-clause-undone : goal.returns-clause-undone
unfolding effect_of
returns-clause-undone c = reached 4 2 store_and_abort undone_moves _ _ refl undone_room refl (refl, refl, refl, refl, refl)
