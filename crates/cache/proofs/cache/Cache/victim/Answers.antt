use Rattle.std.proofs.Common.{◌≡◌, ◌<◌, ◌%◌, [], length, get_or, ◌∙◌, ap, arith}
use Rattle.std.proofs.lemmas.List.{get_or_default}
use Rattle.cache.specs.Ways.{victim_in}
use Rattle.cache.specs.Sets.{victim_at}
use Rattle.cache.proofs.Victims.{goes}
use Rattle.cache.proofs.cache.Cache.victim.Goals as goal

pub returns-clause-goes : goal.returns-clause-goes
unfolding victim_at
returns-clause-goes g c =
    let some : 0 < g.row.SETS = c.self.invariant.0.some_set in
    let within : c.index.result % g.row.SETS < length c.self.inside.sets = omega arith in
    let ways : c.index-sets-index.result ≡ get_or c.self.inside.sets (c.args.block % g.row.SETS) [] = rw c.index.ensures.value at (c.index-sets-index.is ∙ get_or_default c.self.inside.sets (c.index.result % g.row.SETS) c.index-sets-index.result [] within) in
    rw (c.victim_of.ensures ∙ ap victim_in ways, ← c.self.view_is) (goes g.row.SETS g.row.WAYS c.self.inside.sets c.args.block c.self.invariant.0)
