use Rattle.std.proofs.Common.{refl}
use Rattle.table.specs.Table.{effect_of}
use Rattle.part_tests.specs.Programs.{load_then_store}
use Rattle.part_tests.proofs.Played.{reached}
use Rattle.part_tests.proofs.SpillTraces.{dropped_moves, still_refused_moves, dropped_room, no_message, still_refused_room}
use Rattle.part_tests.proofs.examples.spills.a_dropped_line_still_refuses.Goals as goal

pub returns-clause-dropped : goal.returns-clause-dropped
unfolding effect_of
returns-clause-dropped c = reached 4 2 load_then_store dropped_moves _ _ refl dropped_room refl (refl, refl, no_message, refl, refl, refl)

pub returns-clause-refused : goal.returns-clause-refused
unfolding effect_of
returns-clause-refused c = reached 4 2 load_then_store still_refused_moves _ _ refl still_refused_room refl (refl, refl, refl, refl, refl)
