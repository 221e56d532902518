use Rattle.std.proofs.Common.{refl}
use Rattle.table.specs.Table.{effect_of}
use Rattle.part_tests.specs.Programs.{load_and_store}
use Rattle.part_tests.proofs.Played.{reached}
use Rattle.part_tests.proofs.SharingTraces.{shared_moves, shared_room}
use Rattle.part_tests.proofs.examples.sharing.an_owner_answers_a_read.Goals as goal

pub returns : goal.returns
unfolding effect_of
returns c = reached 4 2 load_and_store shared_moves _ _ refl shared_room refl (refl, refl, refl, refl, refl, refl)
