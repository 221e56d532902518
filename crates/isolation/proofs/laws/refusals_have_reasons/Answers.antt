use Rattle.isolation.proofs.Belongs.Belonging.{refusal_after, refusal_among}
use Rattle.isolation.proofs.laws.refusals_have_reasons.Goals as goal

pub returns-clause-each : goal.returns-clause-each
returns-clause-each c = refusal_among

pub returns-clause-next : goal.returns-clause-next
returns-clause-next c = refusal_after
