use Rattle.std.proofs.Common.{refl}
use Rattle.table.specs.Table.{effect_of}
use Rattle.part_tests.specs.Aborts.{logged}
use Rattle.part_tests.proofs.Played.{led}
use Rattle.part_tests.proofs.Moves.{cores_moves}
use Rattle.part_tests.proofs.examples.aborts.a_full_log_starts_an_abort.Goals as goal

pub returns-clause-last : goal.returns-clause-last
unfolding effect_of
returns-clause-last c = led 4 (logged 112) (cores_moves 2) _ _ refl tt refl refl

pub returns-clause-goes_on : goal.returns-clause-goes_on
unfolding effect_of
returns-clause-goes_on c = led 4 (logged 113) (cores_moves 1) _ _ refl tt refl (refl, refl, refl)

pub returns-clause-starts : goal.returns-clause-starts
unfolding effect_of
returns-clause-starts c = led 4 (logged 113) (cores_moves 2) _ _ refl tt refl (refl, refl, refl)

pub returns-clause-undone : goal.returns-clause-undone
unfolding effect_of
returns-clause-undone c = led 4 (logged 113) (cores_moves 116) _ _ refl tt refl (refl, refl, refl, refl, refl)
