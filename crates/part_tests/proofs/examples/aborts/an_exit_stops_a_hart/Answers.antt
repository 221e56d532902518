use Rattle.std.proofs.Common.{refl}
use Rattle.table.specs.Table.{effect_of}
use Rattle.part_tests.specs.Programs.{exit}
use Rattle.part_tests.proofs.Played.{reached}
use Rattle.part_tests.proofs.AbortTraces.{exit_moves}
use Rattle.part_tests.proofs.examples.aborts.an_exit_stops_a_hart.Goals as goal

pub returns : goal.returns
unfolding effect_of
returns c = reached 4 1 exit exit_moves _ _ refl tt refl (refl, refl)
