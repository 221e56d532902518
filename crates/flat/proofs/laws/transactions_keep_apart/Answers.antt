use Rattle.flat.proofs.Separate.{none_shared}
use Rattle.flat.proofs.laws.transactions_keep_apart.Goals as goal

pub returns : goal.returns
returns c = none_shared
