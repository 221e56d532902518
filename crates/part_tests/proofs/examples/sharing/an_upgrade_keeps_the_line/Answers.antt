use Rattle.std.proofs.Common.{refl}
use Rattle.table.specs.Table.{effect_of}
use Rattle.part_tests.specs.Programs.{store_and_upgrade}
use Rattle.part_tests.proofs.Played.{reached}
use Rattle.part_tests.proofs.SharingTraces.{forwarded_moves, upgraded_moves, stored_moves, forwarded_room, upgraded_room, stored_room}
use Rattle.part_tests.proofs.examples.sharing.an_upgrade_keeps_the_line.Goals as goal

pub returns-clause-forwarded : goal.returns-clause-forwarded
unfolding effect_of
returns-clause-forwarded c = reached 4 3 store_and_upgrade forwarded_moves _ _ refl forwarded_room refl (refl, refl, refl)

pub returns-clause-upgraded : goal.returns-clause-upgraded
unfolding effect_of
returns-clause-upgraded c = reached 4 3 store_and_upgrade upgraded_moves _ _ refl upgraded_room refl (refl, refl, refl, refl, refl, refl)

pub returns-clause-stored : goal.returns-clause-stored
unfolding effect_of
returns-clause-stored c = reached 4 3 store_and_upgrade stored_moves _ _ refl stored_room refl (refl, refl)
