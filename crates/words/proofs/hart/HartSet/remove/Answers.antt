use Rattle.words.proofs.Masks.{removed, removed_other}
use Rattle.words.proofs.hart.HartSet.remove.Goals as goal

pub returns-clause-this : goal.returns-clause-this
returns-clause-this c = rw (← c.hart.view_is) (removed c.self.inside.mask c.self.invariant c.hart.inside.number c.hart.invariant)

pub returns-clause-others : goal.returns-clause-others
returns-clause-others c = rw (← c.self.view_is, ← c.hart.view_is) (removed_other c.self.inside.mask c.self.invariant c.hart.inside.number c.hart.invariant)
