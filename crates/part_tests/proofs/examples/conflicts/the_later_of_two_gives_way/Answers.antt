use Rattle.std.proofs.Common.{refl}
use Rattle.table.specs.Table.{effect_of}
use Rattle.part_tests.specs.Programs.{store_crosswise}
use Rattle.part_tests.proofs.Played.{reached}
use Rattle.part_tests.proofs.ConflictTraces.{crossed_moves, resolved_moves, crossed_room, resolved_room}
use Rattle.part_tests.proofs.examples.conflicts.the_later_of_two_gives_way.Goals as goal

pub returns-clause-aborted : goal.returns-clause-aborted
unfolding effect_of
returns-clause-aborted c = reached 4 2 store_crosswise crossed_moves _ _ refl crossed_room refl (refl, refl, refl)

pub returns-clause-resolved : goal.returns-clause-resolved
unfolding effect_of
returns-clause-resolved c = reached 4 2 store_crosswise resolved_moves _ _ refl resolved_room refl (refl, refl, refl, refl)
