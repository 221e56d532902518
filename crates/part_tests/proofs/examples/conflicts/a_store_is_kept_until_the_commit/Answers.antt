use Rattle.std.proofs.Common.{refl}
use Rattle.table.specs.Table.{effect_of}
use Rattle.part_tests.specs.Programs.{store_and_commit}
use Rattle.part_tests.proofs.Played.{reached}
use Rattle.part_tests.proofs.ConflictTraces.{refused_moves, granted_moves, refused_room, granted_room}
use Rattle.part_tests.proofs.examples.conflicts.a_store_is_kept_until_the_commit.Goals as goal

pub returns-clause-refused : goal.returns-clause-refused
unfolding effect_of
returns-clause-refused c = reached 4 2 store_and_commit refused_moves _ _ refl refused_room refl (refl, refl, refl, refl, refl)

pub returns-clause-granted : goal.returns-clause-granted
unfolding effect_of
returns-clause-granted c = reached 4 2 store_and_commit granted_moves _ _ refl granted_room refl (refl, refl, refl, refl)
