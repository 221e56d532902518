use Rattle.protocol.proofs.Splits.{runs_between, runs_joined, runs_at}
use Rattle.protocol.proofs.laws.runs_split.Goals as goal

pub returns-clause-steps : goal.returns-clause-steps
returns-clause-steps c = λ g v w first second es. (runs_between g v w first second es, runs_joined g v w first second es)

pub returns-clause-entry : goal.returns-clause-entry
returns-clause-entry c = λ g v w steps before after e. runs_at g v w steps before e after
