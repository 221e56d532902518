use Rattle.schedule.proofs.OneRun.{run_once, same_entries}
use Rattle.schedule.proofs.laws.a_schedule_makes_one_run.Goals as goal

pub returns-clause-moments : goal.returns-clause-moments
returns-clause-moments c = λ g behind choices n v w u x after ms ns twins one other. (run_once g behind choices n v w u x after ms ns twins one other).0

pub returns-clause-machine : goal.returns-clause-machine
returns-clause-machine c = λ g behind choices n v w u x after ms ns twins one other. (run_once g behind choices n v w u x after ms ns twins one other).1

pub returns-clause-entries : goal.returns-clause-entries
returns-clause-entries c = same_entries
