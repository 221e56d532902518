use Rattle.std.proofs.Common.{◌<◌, ◌%◌, None, [], length, get_or, set, map, sym, ap, ◌∙◌, arith}
use Rattle.std.proofs.lemmas.List.{length-map}
use Rattle.cache.specs.Ways.{holds, has_line}
use Rattle.cache.specs.Occupied.{mask_of}
use Rattle.cache.proofs.Changes.{invalidate-changes, invalidate-room, way_fits}
use Rattle.cache.proofs.Occupancy.{removed-occupied}
use Rattle.cache.proofs.Rooms.{room-kept}
use Rattle.cache.proofs.cache.Cache.invalidate.Goals as goal

pub offset_bounds-ways-way : goal.offset_bounds-ways-way
offset_bounds-ways-way g c =
    let few = way_fits g.row.SETS g.row.WAYS c.self.inside.sets (holds c.args.block) c.in-Some.way c.args.block c.self.invariant.0 (rw c.index-set.ensures.value at (sym c.way_of.ensures ∙ c.in-Some.is)) in
    omega (arith, few)

pub invariant_of-self : goal.invariant_of-self
invariant_of-self g c = rw c.index-set.ensures.value (
  (invalidate-changes g.row.SETS g.row.WAYS c.self.inside.sets c.in-Some.way c.args.block c.self.invariant.0 c.self.told (rw c.index-set.ensures.value at (sym c.way_of.ensures ∙ c.in-Some.is))).sound,
  let some : 0 < g.row.SETS = c.self.invariant.0.some_set in
      let within : c.args.block % g.row.SETS < length c.self.inside.sets = omega arith in
      rw c.index-set.ensures.value at (c.update.ensures (map has_line c.self.inside.sets) (rw (length-map, c.index-set.ensures.value) within) c.self.invariant.1)
      ∙ ap (mask_of 64) (removed-occupied c.self.inside.sets (c.args.block % g.row.SETS) (set (get_or c.self.inside.sets (c.args.block % g.row.SETS) []) c.in-Some.way None) c.index-sets-set.result c.has_line.result within (rw c.index-set.ensures.value at c.index-sets-set.is) c.has_line.ensures),
)

pub returns-in-Some-clause-line : goal.returns-in-Some-clause-line
returns-in-Some-clause-line g c = rw (← c.self.view_is, c.index-set.ensures.value) ((invalidate-changes g.row.SETS g.row.WAYS c.self.inside.sets c.in-Some.way c.args.block c.self.invariant.0 c.self.told (rw c.index-set.ensures.value at (sym c.way_of.ensures ∙ c.in-Some.is))).line)

pub returns-in-Some-clause-room : goal.returns-in-Some-clause-room
returns-in-Some-clause-room g c = λ there b same. rw c.index-set.ensures.value (invalidate-room g.row.SETS g.row.WAYS c.self.inside.sets c.in-Some.way b c.args.block c.self.invariant.0 c.self.told (rw c.index-set.ensures.value at (sym c.way_of.ensures ∙ c.in-Some.is)) same)

pub returns-in-Some-clause-rooms : goal.returns-in-Some-clause-rooms
returns-in-Some-clause-rooms g c = λ b room. rw c.index-set.ensures.value (room-kept g.row.SETS g.row.WAYS c.self.inside.sets c.in-Some.way b c.args.block _ c.self.invariant.0 c.self.told (rw c.index-set.ensures.value at (sym c.way_of.ensures ∙ c.in-Some.is)) (rw (← c.self.view_is) at room))
