use Rattle.outcomes.proofs.KeptEnds.{ascend}
use Rattle.outcomes.proofs.gathering.Found.listed.Goals as goal

pub returns-clause-ascending : goal.returns-clause-ascending
returns-clause-ascending c = ascend c.args.self c.into_iter.ensures.into_iter_gives.5
