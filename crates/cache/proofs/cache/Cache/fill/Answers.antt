use Rattle.std.proofs.Common.{◌<◌, map, refl, sym, ap, ◌∙◌, arith}
use Rattle.std.proofs.lemmas.List.{length-map}
use Rattle.cache.specs.Line.{filled}
use Rattle.cache.specs.Ways.{is_free, has_line}
use Rattle.cache.specs.Occupied.{mask_of}
use Rattle.cache.proofs.Changes.{way_fits, fill-changes, fill-occupied}
use Rattle.cache.proofs.cache.Cache.fill.Goals as goal

pub offset_bounds-ways-way : goal.offset_bounds-ways-way
offset_bounds-ways-way g c =
    let few = way_fits g.row.SETS g.row.WAYS c.self.inside.sets is_free c.in-Some.way c.args.block c.self.invariant.0 (rw c.index-set.ensures.value at (sym c.free_way.ensures ∙ c.in-Some.is)) in
    omega (arith, few)

pub invariant_of-self : goal.invariant_of-self
invariant_of-self g c = rw (c.filled.ensures, c.index-set.ensures.value) (
  (fill-changes g.row.SETS g.row.WAYS c.self.inside.sets c.in-Some.way (filled c.args.block c.args.content c.args.state c.args.overflowed) c.self.invariant.0 c.self.told (rw c.self.view_is c.requires.absent) (rw c.index-set.ensures.value at (sym c.free_way.ensures ∙ c.in-Some.is)) refl).sound,
  rw c.index-set.ensures.value at (c.update.ensures (map has_line c.self.inside.sets) (rw (length-map, c.self.told, c.index-set.ensures.value) (let some : 0 < g.row.SETS = c.self.invariant.0.some_set in omega arith)) c.self.invariant.1) ∙ ap (mask_of 64) (sym (fill-occupied g.row.SETS c.self.inside.sets c.in-Some.way c.args.block (filled c.args.block c.args.content c.args.state c.args.overflowed) (rw c.index-set.ensures.value at (sym c.free_way.ensures ∙ c.in-Some.is)))),
)

pub returns-in-Some : goal.returns-in-Some
returns-in-Some g c = rw (← c.self.view_is, c.filled.ensures, c.index-set.ensures.value) ((fill-changes g.row.SETS g.row.WAYS c.self.inside.sets c.in-Some.way (filled c.args.block c.args.content c.args.state c.args.overflowed) c.self.invariant.0 c.self.told (rw c.self.view_is c.requires.absent) (rw c.index-set.ensures.value at (sym c.free_way.ensures ∙ c.in-Some.is)) refl).line)
