use Rattle.requests.proofs.Determined.{one_in_file}
use Rattle.simulate.proofs.laws.files_hold_one_program.Goals as goal

pub returns : goal.returns
returns c = one_in_file
