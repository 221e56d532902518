use Rattle.words.proofs.Masks.{is_subset}
use Rattle.words.proofs.hart.HartSet.is_subset.Goals as goal

pub returns : goal.returns
returns c = rw (← c.self.view_is, ← c.other.view_is) (is_subset c.self.inside.mask c.other.inside.mask c.self.invariant c.other.invariant)
