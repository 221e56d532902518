use Rattle.isolation.proofs.Lost.{failure_after, failure_among}
use Rattle.isolation.proofs.laws.failed_stores_have_reasons.Goals as goal

pub returns-clause-each : goal.returns-clause-each
returns-clause-each c = λ g s entry steps before after f w i pc word write load b bytes run flat wants. failure_among g s entry bytes steps before after f w i pc word write load b run flat wants

pub returns-clause-next : goal.returns-clause-next
returns-clause-next c = λ g s entry steps es f v w next i pc word write load b bytes run flat step wants. failure_after g s entry bytes steps es f v w next i pc word write load b run flat step wants
