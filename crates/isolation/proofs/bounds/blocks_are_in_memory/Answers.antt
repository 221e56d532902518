use Rattle.isolation.proofs.Within.Machines.{start_within, step_within, run_within}
use Rattle.isolation.proofs.bounds.blocks_are_in_memory.Goals as goal

pub returns-clause-start : goal.returns-clause-start
returns-clause-start c = start_within

pub returns-clause-step : goal.returns-clause-step
returns-clause-step c = step_within

pub returns-clause-run : goal.returns-clause-run
returns-clause-run c = run_within
