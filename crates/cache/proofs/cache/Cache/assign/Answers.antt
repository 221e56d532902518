use Rattle.std.proofs.Common.{◌∙◌, sym}
use Rattle.cache.proofs.Changes.{few_ways, bytes_fit}
use Rattle.cache.proofs.Occupancy.{neither}
use Rattle.cache.proofs.cache.Cache.assign.Goals as goal

pub assign_sets-requires : goal.assign_sets-requires
assign_sets-requires g c = (
  bytes_fit _ (few_ways g.row.SETS g.row.WAYS c.self.inside.sets c.self.invariant.0),
  (
    c.other.told ∙ sym c.self.told,
    λ s not. neither g.row.SETS g.row.WAYS c.self.inside.occupied c.other.inside.occupied c.self.inside.sets c.other.inside.sets c.self.invariant.0 c.other.invariant.0 c.self.told c.other.told c.self.invariant.1 c.other.invariant.1 s (sym (c.union-either.ensures s) ∙ not),
  ),
)
