use Rattle.isolation.proofs.Walked.{order_walks, walk_runs}
use Rattle.isolation.proofs.endings.walks_are_runs.Goals as goal

pub returns-clause-order : goal.returns-clause-order
returns-clause-order c = order_walks

pub returns-clause-run : goal.returns-clause-run
returns-clause-run c = walk_runs
