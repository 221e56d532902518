use Rattle.isolation.proofs.Leading.{starts_unled, step_leads_on, run_leads_on}
use Rattle.isolation.proofs.laws.entries_lead_on_with_reasons.Goals as goal

pub returns-clause-start : goal.returns-clause-start
returns-clause-start c = starts_unled

pub returns-clause-step : goal.returns-clause-step
returns-clause-step c = step_leads_on

pub returns-clause-run : goal.returns-clause-run
returns-clause-run c = run_leads_on
