use Rattle.isolation.proofs.Belongs.Belonging.{belongs_start, belongs_next, belongs_later, belongs_after}
use Rattle.isolation.proofs.laws.entries_are_a_flat_run.Goals as goal

pub returns-clause-start : goal.returns-clause-start
returns-clause-start c = belongs_start

pub returns-clause-step : goal.returns-clause-step
returns-clause-step c = belongs_next

pub returns-clause-run : goal.returns-clause-run
returns-clause-run c = belongs_later

pub returns-clause-from_start : goal.returns-clause-from_start
returns-clause-from_start c = belongs_after
