use Rattle.isolation.proofs.Walked.{no_move}
use Rattle.isolation.proofs.endings.ended_states_are_last.Goals as goal

pub returns : goal.returns
returns c = no_move
