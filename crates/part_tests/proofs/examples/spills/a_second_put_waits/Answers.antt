use Rattle.std.proofs.Common.{refl}
use Rattle.table.specs.Table.{effect_of}
use Rattle.part_tests.specs.Programs.{store_to_both}
use Rattle.part_tests.proofs.Played.{reached}
use Rattle.part_tests.proofs.SpillTraces.{second_put_moves, later_put_moves, second_put_room, later_put_room}
use Rattle.part_tests.proofs.examples.spills.a_second_put_waits.Goals as goal

pub returns-clause-waits : goal.returns-clause-waits
unfolding effect_of
returns-clause-waits c = reached 4 1 store_to_both second_put_moves _ _ refl second_put_room refl (refl, refl, refl)

pub returns-clause-later : goal.returns-clause-later
unfolding effect_of
returns-clause-later c = reached 4 1 store_to_both later_put_moves _ _ refl later_put_room refl (refl, refl, refl, refl)
