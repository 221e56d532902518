use Rattle.std.proofs.Common.{◌<◌, ℕ, [], ◌∷◌}
use Rattle.words.specs.declared.cause.AbortCause.TheVariants.{Conflict}
use Rattle.words.specs.declared.entry.Entry.TheVariants.{Abort}
use Rattle.flat.specs.State.{Flat}
use Rattle.isolation.specs.Moves.{MoveTogether}
use Rattle.outcomes.specs.Standings.{flat_of}
use Rattle.outcomes.specs.Turns.{Has, Adds}
use Rattle.outcomes.proofs.standing.Standing.push_moves_with.Given as goal

-- the moves with the harts below j are there
abbrev pub invariant-loop-j : goal.invariant-loop-j
invariant-loop-j l =
    Adds l.self.scene.image.now (flat_of l.self) l.fn.turns.items l.turns.items
    × ((k : ℕ) (g : Flat) → k < l.j → MoveTogether (flat_of l.self) l.id k g → Has l.self.scene.image.now (flat_of l.self) l.turns.items (Abort l.id Conflict ∷ Abort k Conflict ∷ []) g)
