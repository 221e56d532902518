use Rattle.std.proofs.Common.{refl}
use Rattle.table.specs.Table.{effect_of}
use Rattle.part_tests.specs.Programs.{store_number}
use Rattle.part_tests.proofs.Played.{reached}
use Rattle.part_tests.proofs.SharingTraces.{outdated_moves, outdated_room}
use Rattle.part_tests.proofs.examples.sharing.an_outdated_put_overwrites_nothing.Goals as goal

pub returns : goal.returns
unfolding effect_of
returns c = reached 4 2 store_number outdated_moves _ _ refl outdated_room refl (refl, refl, refl, refl)
