use Rattle.std.proofs.Common.{refl}
use Rattle.table.specs.Table.{effect_of}
use Rattle.part_tests.specs.Programs.{store_crosswise}
use Rattle.part_tests.proofs.Played.{reached}
use Rattle.part_tests.proofs.SpillTraces.{crowded_moves, crowded_room}
use Rattle.part_tests.proofs.examples.spills.a_full_set_evicts_a_line.Goals as goal

pub returns : goal.returns
unfolding effect_of
returns c = reached 1 1 store_crosswise crowded_moves _ _ refl crowded_room refl (refl, refl, refl, refl)
