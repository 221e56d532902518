use Rattle.std.proofs.Common.{refl}
use Rattle.table.specs.Table.{effect_of}
use Rattle.part_tests.specs.Programs.{load_and_store}
use Rattle.part_tests.proofs.Played.{reached}
use Rattle.part_tests.proofs.SharingTraces.{overtaken_moves, overtaken_room}
use Rattle.part_tests.proofs.examples.sharing.a_put_is_overtaken.Goals as goal

pub returns : goal.returns
unfolding effect_of
returns c = reached 4 2 load_and_store overtaken_moves _ _ refl overtaken_room refl (refl, refl, refl, refl, refl, refl)
