use Rattle.std.proofs.lemmas.Nat.{or_lt}
use Rattle.cache.proofs.Masks.{union_may}
use Rattle.cache.proofs.occupied.Occupied.union.Goals as goal

pub invariant_of-result : goal.invariant_of-result
invariant_of-result c = or_lt 64 c.self.inside.mask c.other.inside.mask c.self.invariant c.other.invariant

pub returns : goal.returns
returns c = rw (← c.self.view_is, ← c.other.view_is) (union_may c.self.inside.mask c.other.inside.mask)
