use Rattle.flat.proofs.Runs.{run_between, run_joined}
use Rattle.flat.proofs.laws.run_of_two.Goals as goal

pub returns : goal.returns
returns c = λ f h es fs. (run_between f h es fs, run_joined f h es fs)
