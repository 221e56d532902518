use Rattle.words.proofs.Masks.{contains}
use Rattle.words.proofs.hart.HartSet.contains.Goals as goal

pub returns : goal.returns
returns c = rw (← c.self.view_is, ← c.hart.view_is) (contains c.self.inside.mask c.hart.inside.number)
