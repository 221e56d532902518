use Rattle.isolation.proofs.Belongs.Belonging.{answers_after}
use Rattle.isolation.proofs.laws.answers_are_the_flat_machines.Goals as goal

pub returns : goal.returns
returns c = answers_after
