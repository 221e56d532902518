use Rattle.words.proofs.Masks.{is_empty}
use Rattle.words.proofs.hart.HartSet.is_empty.Goals as goal

pub returns : goal.returns
returns c = rw (← c.self.view_is) (is_empty c.self.inside.mask)
