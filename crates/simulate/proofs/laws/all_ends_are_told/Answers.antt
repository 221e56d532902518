use Rattle.requests.proofs.Telling.{all_told}
use Rattle.simulate.proofs.laws.all_ends_are_told.Goals as goal

pub returns : goal.returns
returns c = all_told
