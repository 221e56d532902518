use Rattle.std.proofs.Common.{refl}
use Rattle.table.specs.Table.{effect_of}
use Rattle.part_tests.specs.Programs.{store_and_abort}
use Rattle.part_tests.proofs.Played.{reached}
use Rattle.part_tests.proofs.AbortTraces.{aborting_moves, aborting_room}
use Rattle.part_tests.proofs.examples.aborts.an_abort_keeps_others_out.Goals as goal

pub returns : goal.returns
unfolding effect_of
returns c = reached 4 2 store_and_abort aborting_moves _ _ refl aborting_room refl (refl, refl, refl, refl)
