use Rattle.schedule.proofs.Again.{follows_again}
use Rattle.schedule.proofs.laws.chosen_steps_are_played_again.Goals as goal

pub returns : goal.returns
returns c = follows_again
