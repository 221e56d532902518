-- Moves that many examples have.
use Rattle.std.proofs.Common.{ℕ, None, List, [], ◌∷◌, ◌++◌, replicate}
use Rattle.words.specs.declared.entry.Step.TheVariants.{Core, Evict, Deliver}
use Rattle.part_tests.proofs.Played.{Move}

abbrev pub move : ℕ → List ℕ → Move
move i keys = record { step = Core i; keys = keys; victim = None }

abbrev pub deliver : ℕ → List ℕ → Move
deliver key keys = record { step = Deliver key; keys = keys; victim = None }

abbrev pub evict : ℕ → ℕ → List ℕ → Move
evict i b keys = record { step = Evict i b; keys = keys; victim = None }

-- a step of the core that sends nothing
abbrev pub core : ℕ → Move
core i = move i []

abbrev pub cores_moves : ℕ → List Move
cores_moves n = replicate n (core 0)

-- hart i asks for a block of nobody, or of another hart
abbrev pub alone : ℕ → List Move
alone i = move i (0 ∷ []) ∷ deliver 0 (0 ∷ []) ∷ deliver 0 (0 ∷ []) ∷ deliver 0 [] ∷ []

abbrev pub another : ℕ → List Move
another i = move i (0 ∷ []) ∷ deliver 0 (0 ∷ 1 ∷ []) ∷ deliver 1 (1 ∷ []) ∷ deliver 1 [] ∷ deliver 0 (0 ∷ []) ∷ deliver 0 [] ∷ []

abbrev pub store_moves : ℕ → List Move
store_moves i = core i ∷ core i ∷ alone i ++ core i ∷ []

-- a Put, and its end
abbrev pub gives_up_moves : List Move
gives_up_moves = evict 0 256 (0 ∷ []) ∷ deliver 0 (0 ∷ []) ∷ deliver 0 [] ∷ []
