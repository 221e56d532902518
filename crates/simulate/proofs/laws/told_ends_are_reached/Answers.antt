use Rattle.requests.proofs.Telling.{told_reached}
use Rattle.simulate.proofs.laws.told_ends_are_reached.Goals as goal

pub returns : goal.returns
returns c = told_reached
