use Rattle.requests.proofs.Determined.{one_image}
use Rattle.simulate.proofs.laws.assembled_files_are_one.Goals as goal

pub returns : goal.returns
returns c = one_image
