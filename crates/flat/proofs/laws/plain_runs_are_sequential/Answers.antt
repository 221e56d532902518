use Rattle.flat.proofs.Sequential.{run_stores, run_loads}
use Rattle.flat.proofs.laws.plain_runs_are_sequential.Goals as goal

pub returns-clause-memory : goal.returns-clause-memory
returns-clause-memory c = run_stores

pub returns-clause-loads : goal.returns-clause-loads
returns-clause-loads c = run_loads
