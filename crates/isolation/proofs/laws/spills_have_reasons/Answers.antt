use Rattle.isolation.proofs.Footprints.Reasoned.{spill_after, spill_among}
use Rattle.isolation.proofs.laws.spills_have_reasons.Goals as goal

pub returns-clause-each : goal.returns-clause-each
returns-clause-each c = λ g s entry steps before after f w i b bytes run flat. spill_among g s entry bytes steps before after f w i b run flat

pub returns-clause-next : goal.returns-clause-next
returns-clause-next c = λ g s entry steps es f v w next i b bytes run flat step. spill_after g s entry bytes steps es f v w next i b run flat step
