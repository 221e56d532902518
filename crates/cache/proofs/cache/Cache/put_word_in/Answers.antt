use Rattle.std.proofs.Common.{◌≡◌, ◌%◌, [], get_or, position, Some, refl, sym, ◌∙◌, ap, subst}
use Rattle.cache.specs.Line.{put_into}
use Rattle.cache.specs.Ways.{holds}
use Rattle.cache.specs.Sets.{Sets, way_at}
use Rattle.cache.specs.Occupied.{mask_of}
use Rattle.cache.proofs.Changes.{ChangedThere, changes-there}
use Rattle.cache.proofs.Rooms.{room-kept}
use Rattle.cache.proofs.cache.Cache.put_word_in.Given.{Over}
use Rattle.cache.proofs.cache.Cache.put_word_in.Goals as goal

-- the block stands in the way
found : (g : Over) (c : goal.After-self-1 g) → position (holds c.args.block) (get_or c.self.inside.sets (c.args.block % g.row.SETS) []) ≡ Some c.args.way
unfolding way_at
found g c = subst (λ (sets : Sets). way_at g.row.SETS sets c.args.block ≡ Some c.args.way) (sym c.self.view_is) c.requires.way

-- the line in its way is changed
changed : (g : Over) (c : goal.After-self-1 g) → ChangedThere g.row.SETS g.row.WAYS c.self.inside.sets c.args.block c.args.way (put_into c.args.word c.args.value c.args.reads c.args.writes)
changed g c = changes-there g.row.SETS g.row.WAYS c.self.inside.sets c.args.way c.args.block (put_into c.args.word c.args.value c.args.reads c.args.writes) c.self.invariant.0 c.self.told (found g c) (λ l. refl) (λ l here written. refl)

pub invariant_of-self : goal.invariant_of-self
invariant_of-self g c = rw (c.put_word.ensures, c.index.ensures.value) ((changed g c).sound, c.self.invariant.1 ∙ ap (mask_of 64) (sym (changed g c).occupied))

pub returns-clause-line : goal.returns-clause-line
returns-clause-line g c = rw (← c.self.view_is, c.put_word.ensures, c.index.ensures.value) ((changed g c).line)

pub returns-clause-rooms : goal.returns-clause-rooms
returns-clause-rooms g c = λ b room. rw (c.put_word.ensures, c.index.ensures.value) (room-kept g.row.SETS g.row.WAYS c.self.inside.sets c.args.way b c.args.block _ c.self.invariant.0 c.self.told (found g c) (rw (← c.self.view_is) at room))
