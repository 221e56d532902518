use Rattle.std.proofs.lemmas.Bool.Decides.{Decides-at}
use Rattle.cache.proofs.Equal.{ways-decides}
use Rattle.cache.proofs.sets.same_ways.Goals as goal

pub returns : goal.returns
returns g c = Decides-at c.eq.result _ c.eq.ensures (ways-decides _ _)
