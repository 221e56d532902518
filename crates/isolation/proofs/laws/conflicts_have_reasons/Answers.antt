use Rattle.isolation.proofs.Belongs.Belonging.{conflict_after, conflict_among}
use Rattle.isolation.proofs.laws.conflicts_have_reasons.Goals as goal

pub returns-clause-each : goal.returns-clause-each
returns-clause-each c = conflict_among

pub returns-clause-next : goal.returns-clause-next
returns-clause-next c = conflict_after
