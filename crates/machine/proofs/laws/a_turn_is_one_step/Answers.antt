use Rattle.machine.proofs.OneTurn.{turn_once}
use Rattle.machine.proofs.laws.a_turn_is_one_step.Goals as goal

pub returns : goal.returns
returns c = turn_once
