use Rattle.std.proofs.Common.{refl}
use Rattle.table.specs.Table.{effect_of}
use Rattle.part_tests.specs.Programs.{load_then_store}
use Rattle.part_tests.proofs.Played.{reached}
use Rattle.part_tests.proofs.SharingTraces.{untouched_moves, untouched_room}
use Rattle.part_tests.proofs.examples.sharing.an_unused_line_is_shared.Goals as goal

pub returns : goal.returns
unfolding effect_of
returns c = reached 4 2 load_then_store untouched_moves _ _ refl untouched_room refl (refl, refl, refl)
