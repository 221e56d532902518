use Rattle.std.proofs.Common.{refl}
use Rattle.table.specs.Table.{effect_of}
use Rattle.part_tests.specs.Programs.{store_to_text}
use Rattle.part_tests.proofs.Played.{reached}
use Rattle.part_tests.proofs.AbortTraces.{trap_moves}
use Rattle.part_tests.proofs.examples.aborts.a_trap_rolls_the_transaction_back.Goals as goal

pub returns : goal.returns
unfolding effect_of
returns c = reached 4 1 store_to_text trap_moves _ _ refl tt refl (refl, refl, refl)
