use Rattle.outcomes.proofs.Told.{told}
use Rattle.outcomes.proofs.laws.end_is_told.Goals as goal

pub returns : goal.returns
returns c = told
