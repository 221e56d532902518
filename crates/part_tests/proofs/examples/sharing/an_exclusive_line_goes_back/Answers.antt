use Rattle.std.proofs.Common.{refl}
use Rattle.table.specs.Table.{effect_of}
use Rattle.part_tests.specs.Programs.{load_then_store}
use Rattle.part_tests.proofs.Played.{reached}
use Rattle.part_tests.proofs.SharingTraces.{returned_moves, returned_room, exclusive_moves, written_back_moves, exclusive_room, written_back_room}
use Rattle.part_tests.proofs.examples.sharing.an_exclusive_line_goes_back.Goals as goal

pub returns-clause-granted : goal.returns-clause-granted
unfolding effect_of
returns-clause-granted c = reached 4 2 load_then_store exclusive_moves _ _ refl exclusive_room refl (refl, refl)

pub returns-clause-given_up : goal.returns-clause-given_up
unfolding effect_of
returns-clause-given_up c = reached 4 2 load_then_store written_back_moves _ _ refl written_back_room refl (refl, refl, refl)

pub returns-clause-over : goal.returns-clause-over
unfolding effect_of
returns-clause-over c = reached 4 2 load_then_store returned_moves _ _ refl returned_room refl (refl, refl, refl, refl, refl)
