use Rattle.isolation.proofs.Reserved.{store_after, store_among}
use Rattle.isolation.proofs.laws.conditional_stores_have_reasons.Goals as goal

pub returns-clause-each : goal.returns-clause-each
returns-clause-each c = λ g s entry steps before after w i pc word write load store bytes run. store_among g s entry bytes steps before after w i pc word write load store run

pub returns-clause-next : goal.returns-clause-next
returns-clause-next c = λ g s entry steps es v w next i pc word write load store bytes run step. store_after g s entry bytes steps es v w next i pc word write load store run step
