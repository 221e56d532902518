use Rattle.words.proofs.Masks.{names_none}
use Rattle.words.proofs.hart.HartSet.empty.Goals as goal

pub returns : goal.returns
returns c = names_none
