use Rattle.flat.proofs.Determined.{one_last}
use Rattle.flat.proofs.laws.one_end.Goals as goal

pub returns : goal.returns
returns c = one_last
