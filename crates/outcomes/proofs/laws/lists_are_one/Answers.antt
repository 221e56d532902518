use Rattle.outcomes.proofs.Told.{lists_one}
use Rattle.outcomes.proofs.laws.lists_are_one.Goals as goal

pub returns : goal.returns
returns c = lists_one
