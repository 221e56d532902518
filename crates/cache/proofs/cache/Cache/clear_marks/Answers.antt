use Rattle.std.proofs.Common.{sym, ◌∙◌, ap}
use Rattle.cache.specs.Occupied.{mask_of}
use Rattle.cache.proofs.Occupancy.{occupied-unmarked}
use Rattle.cache.proofs.Cleared.{unmarked_is_sound, line_at-unmarked}
use Rattle.cache.proofs.cache.Cache.clear_marks.Goals as goal

pub invariant_of-self : goal.invariant_of-self
invariant_of-self g c = rw c.clear_sets.ensures (unmarked_is_sound g.row.SETS g.row.WAYS c.self.inside.sets c.self.invariant.0, c.self.invariant.1 ∙ ap (mask_of 64) (sym (occupied-unmarked c.self.inside.sets)))

pub returns-clause-lines : goal.returns-clause-lines
returns-clause-lines g c = λ b. rw (c.clear_sets.ensures, ← c.self.view_is) (line_at-unmarked g.row.SETS c.self.inside.sets b)
