use Rattle.isolation.proofs.Rooms.StepsExist.{keys_of, step_exists, run_exists}
use Rattle.isolation.proofs.laws.steps_exist.Goals as goal

pub returns-clause-keys : goal.returns-clause-keys
returns-clause-keys c = keys_of

pub returns-clause-step : goal.returns-clause-step
returns-clause-step c = λ g f v s ways b. step_exists g ways f v b s

pub returns-clause-run : goal.returns-clause-run
returns-clause-run c = λ g f v steps ways b. run_exists g ways f v b steps
