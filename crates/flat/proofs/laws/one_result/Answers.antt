use Rattle.flat.proofs.Determined.{one_next}
use Rattle.flat.proofs.laws.one_result.Goals as goal

pub returns : goal.returns
returns c = one_next
