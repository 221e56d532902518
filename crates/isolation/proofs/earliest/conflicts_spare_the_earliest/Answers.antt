use Rattle.isolation.proofs.Sparing.Spared.{earliest_among, earliest_next}
use Rattle.isolation.proofs.earliest.conflicts_spare_the_earliest.Goals as goal

pub returns-clause-each : goal.returns-clause-each
returns-clause-each c = λ g s entry steps before since after begin w i. earliest_among g s entry steps before since after begin w i

pub returns-clause-next : goal.returns-clause-next
returns-clause-next c = λ g s entry steps before since begin v w next i bytes r step. earliest_next g s entry steps before since begin i bytes v w next r step
