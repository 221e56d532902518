use Rattle.outcomes.proofs.Told.{listed}
use Rattle.outcomes.proofs.laws.all_ends_are_listed.Goals as goal

pub returns : goal.returns
returns c = listed
