use Rattle.std.proofs.Common.{◌≡◌, ◌%◌, [], get_or, position, Some, refl, sym, ◌∙◌, ap, subst, IsTrue}
use Rattle.words.specs.declared.message.LineState.TheVariants.{Modified}
use Rattle.cache.specs.declared.line.Line.{Line}
use Rattle.cache.specs.Line.{marked_read}
use Rattle.cache.specs.Ways.{holds}
use Rattle.cache.specs.Sets.{Sets, line_at, way_at}
use Rattle.cache.specs.Occupied.{mask_of}
use Rattle.cache.proofs.Changes.{ChangedThere, changes-there}
use Rattle.cache.proofs.Rooms.{room-kept}
use Rattle.cache.proofs.Victims.{looked_owned}
use Rattle.cache.proofs.cache.Cache.mark_read_in.Given.{Over}
use Rattle.cache.proofs.cache.Cache.mark_read_in.Goals as goal

-- the block stands in the way
found : (g : Over) (c : goal.After-self-1 g) → position (holds c.args.block) (get_or c.self.inside.sets (c.args.block % g.row.SETS) []) ≡ Some c.args.way
unfolding way_at
found g c = subst (λ (sets : Sets). way_at g.row.SETS sets c.args.block ≡ Some c.args.way) (sym c.self.view_is) c.requires

-- only a modified line is marked as written
marked : (g : Over) (c : goal.After-self-1 g) (l : Line) → line_at g.row.SETS c.self.inside.sets c.args.block ≡ Some l → IsTrue l.marks.written → l.state ≡ Modified
unfolding line_at
marked g c l here = looked_owned g.row.SETS g.row.WAYS c.self.inside.sets c.args.block (Some l) c.self.invariant.0 (sym here)

-- the line in its way is changed
changed : (g : Over) (c : goal.After-self-1 g) → ChangedThere g.row.SETS g.row.WAYS c.self.inside.sets c.args.block c.args.way marked_read
changed g c = changes-there g.row.SETS g.row.WAYS c.self.inside.sets c.args.way c.args.block marked_read c.self.invariant.0 c.self.told (found g c) (λ l. refl) (marked g c)

pub invariant_of-self : goal.invariant_of-self
invariant_of-self g c = rw (c.mark_read.ensures, c.index.ensures.value) ((changed g c).sound, c.self.invariant.1 ∙ ap (mask_of 64) (sym (changed g c).occupied))

pub returns-clause-line : goal.returns-clause-line
returns-clause-line g c = rw (← c.self.view_is, c.mark_read.ensures, c.index.ensures.value) ((changed g c).line)

pub returns-clause-rooms : goal.returns-clause-rooms
returns-clause-rooms g c = λ b room. rw (c.mark_read.ensures, c.index.ensures.value) (room-kept g.row.SETS g.row.WAYS c.self.inside.sets c.args.way b c.args.block _ c.self.invariant.0 c.self.told (found g c) (rw (← c.self.view_is) at room))
