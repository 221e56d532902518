use Rattle.requests.proofs.Determined.{one_run}
use Rattle.simulate.proofs.laws.assembled_files_run_as_spelled.Goals as goal

pub returns : goal.returns
returns c = one_run
