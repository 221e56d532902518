use Rattle.std.proofs.Common.{◌<◌, ℕ, [], ◌∷◌}
use Rattle.words.specs.declared.cause.AbortCause.TheVariants.{Conflict}
use Rattle.words.specs.declared.entry.Entry.{Entry}
use Rattle.words.specs.declared.entry.Entry.TheVariants.{Abort}
use Rattle.flat.specs.State.{Flat}
use Rattle.flat.specs.Steps.{hart_of}
use Rattle.isolation.specs.Moves.{MovesBy, MoveTogether}
use Rattle.outcomes.specs.Standings.{flat_of}
use Rattle.outcomes.specs.Turns.{Has, Adds}
use Rattle.outcomes.proofs.standing.Standing.all_turns.Given as goal

-- the moves of the harts below i are there, and no others
abbrev pub invariant-loop-i : goal.invariant-loop-i
invariant-loop-i l =
    Adds l.self.scene.image.now (flat_of l.self) [] l.turns.items
    × ((e : Entry) (g : Flat) → hart_of e < l.i → MovesBy (flat_of l.self) e g → Has l.self.scene.image.now (flat_of l.self) l.turns.items (e ∷ []) g)
    × ((k j : ℕ) (g : Flat) → k < l.i → MoveTogether (flat_of l.self) k j g → Has l.self.scene.image.now (flat_of l.self) l.turns.items (Abort k Conflict ∷ Abort j Conflict ∷ []) g)
