use Rattle.machine.proofs.Made.{steps_of}
use Rattle.machine.proofs.laws.steps_that_are_made_are_steps.Goals as goal

pub returns : goal.returns
returns c = λ g v w step e made. steps_of g v step e w made
