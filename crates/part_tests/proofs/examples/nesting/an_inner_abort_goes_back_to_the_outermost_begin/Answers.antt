use Rattle.std.proofs.Common.{refl}
use Rattle.table.specs.Table.{effect_of}
use Rattle.part_tests.specs.Programs.{abort_within}
use Rattle.part_tests.proofs.Played.{reached}
use Rattle.part_tests.proofs.NestingTraces.{within_moves, within_room}
use Rattle.part_tests.proofs.examples.nesting.an_inner_abort_goes_back_to_the_outermost_begin.Goals as goal

pub returns : goal.returns
unfolding effect_of
returns c = reached 4 1 abort_within within_moves _ _ refl within_room refl (refl, refl, refl, refl, refl)
