use Rattle.std.proofs.Common.{refl}
use Rattle.table.specs.Table.{effect_of}
use Rattle.part_tests.specs.Programs.{load_and_store}
use Rattle.part_tests.proofs.Played.{reached}
use Rattle.part_tests.proofs.SharingTraces.{silent_moves, silent_room}
use Rattle.part_tests.proofs.examples.sharing.a_store_to_an_exclusive_line_is_silent.Goals as goal

pub returns : goal.returns
unfolding effect_of
returns c = reached 4 2 load_and_store silent_moves _ _ refl silent_room refl (refl, refl, refl)
