use Rattle.std.proofs.Common.{refl}
use Rattle.table.specs.Table.{effect_of}
use Rattle.part_tests.specs.Programs.{load_then_store}
use Rattle.part_tests.proofs.Played.{reached}
use Rattle.part_tests.proofs.ConflictTraces.{sharers_moves, sharers_room}
use Rattle.part_tests.proofs.examples.conflicts.one_refusal_is_enough.Goals as goal

pub returns : goal.returns
unfolding effect_of
returns c = reached 4 4 load_then_store sharers_moves _ _ refl sharers_room refl (refl, refl, refl, refl, refl, refl, refl, refl, refl, refl)
