use Rattle.outcomes.proofs.Told.{reached}
use Rattle.outcomes.proofs.laws.listed_ends_are_reached.Goals as goal

pub returns : goal.returns
returns c = reached
