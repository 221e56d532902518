use Rattle.std.proofs.Common.{arith, Some, refl, sym, ◌∙◌, ap}
use Rattle.cache.specs.Ways.{holds}
use Rattle.cache.specs.Occupied.{mask_of}
use Rattle.cache.proofs.Changes.{way_fits, replace-changes, kept-occupied}
use Rattle.cache.proofs.Rooms.{room-kept}
use Rattle.cache.proofs.cache.Cache.replace.Goals as goal

pub offset_bounds-ways-way : goal.offset_bounds-ways-way
offset_bounds-ways-way g c =
    let few = way_fits g.row.SETS g.row.WAYS c.self.inside.sets (holds c.args.line.block) c.in-Some.way c.args.line.block c.self.invariant.0 (rw c.index.ensures.value at (sym c.way_of.ensures ∙ c.in-Some.is)) in
    omega (arith, few)

pub invariant_of-self : goal.invariant_of-self
invariant_of-self g c = rw c.index.ensures.value (
  (replace-changes g.row.SETS g.row.WAYS c.self.inside.sets c.in-Some.way c.args.line c.self.invariant.0 c.self.told (rw c.index.ensures.value at (sym c.way_of.ensures ∙ c.in-Some.is)) c.requires.owned).sound,
  c.self.invariant.1 ∙ ap (mask_of 64) (sym (kept-occupied g.row.SETS g.row.WAYS c.self.inside.sets c.in-Some.way c.args.line.block (Some c.args.line) c.self.invariant.0 c.self.told (rw c.index.ensures.value at (sym c.way_of.ensures ∙ c.in-Some.is)) refl)),
)

pub returns-in-Some-clause-line : goal.returns-in-Some-clause-line
returns-in-Some-clause-line g c = rw (← c.self.view_is, c.index.ensures.value) ((replace-changes g.row.SETS g.row.WAYS c.self.inside.sets c.in-Some.way c.args.line c.self.invariant.0 c.self.told (rw c.index.ensures.value at (sym c.way_of.ensures ∙ c.in-Some.is)) c.requires.owned).line)

pub returns-in-Some-clause-rooms : goal.returns-in-Some-clause-rooms
returns-in-Some-clause-rooms g c = λ b room. rw c.index.ensures.value (room-kept g.row.SETS g.row.WAYS c.self.inside.sets c.in-Some.way b c.args.line.block _ c.self.invariant.0 c.self.told (rw c.index.ensures.value at (sym c.way_of.ensures ∙ c.in-Some.is)) (rw (← c.self.view_is) at room))
