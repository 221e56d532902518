use Rattle.std.proofs.Common.{refl}
use Rattle.table.specs.Table.{effect_of}
use Rattle.part_tests.specs.Programs.{commit_twice}
use Rattle.part_tests.proofs.Played.{reached}
use Rattle.part_tests.proofs.Moves.{cores_moves}
use Rattle.part_tests.proofs.NestingTraces.{nested_moves, inner_moves, outer_moves, nested_room, inner_room, outer_room}
use Rattle.part_tests.proofs.examples.nesting.an_inner_commit_ends_nothing.Goals as goal

pub returns-clause-begun : goal.returns-clause-begun
unfolding effect_of
returns-clause-begun c = reached 4 1 commit_twice (cores_moves 1) _ _ refl tt refl refl

pub returns-clause-stored : goal.returns-clause-stored
unfolding effect_of
returns-clause-stored c = reached 4 1 commit_twice nested_moves _ _ refl nested_room refl refl

pub returns-clause-inner : goal.returns-clause-inner
unfolding effect_of
returns-clause-inner c = reached 4 1 commit_twice inner_moves _ _ refl inner_room refl (refl, refl, refl, refl)

pub returns-clause-outer : goal.returns-clause-outer
unfolding effect_of
returns-clause-outer c = reached 4 1 commit_twice outer_moves _ _ refl outer_room refl (refl, refl, refl, refl)
