use Rattle.isolation.proofs.Footprints.Reasoned.{full_log_after, full_log_among}
use Rattle.isolation.proofs.laws.full_logs_have_reasons.Goals as goal

pub returns-clause-each : goal.returns-clause-each
returns-clause-each c = λ g s entry steps before after f w i bytes run flat. full_log_among g s entry bytes steps before after f w i run flat

pub returns-clause-next : goal.returns-clause-next
returns-clause-next c = λ g s entry steps es f v w next i bytes run flat step. full_log_after g s entry bytes steps es f v w next i run flat step
