use Rattle.requests.proofs.Telling.{told_one}
use Rattle.simulate.proofs.laws.told_ends_are_one.Goals as goal

pub returns : goal.returns
returns c = told_one
