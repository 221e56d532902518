-- The first of several tests that holds.
use Rattle.std.specs.Prelude.{Bool, cond, Option, Some, None, List, [], ◌∷◌}

-- what the first test that holds tells
abbrev pub first : {A : Type 0} → List (Bool × A) → Option A
first [] = None
first (test ∷ tests) = cond test.0 (Some test.1) (first tests)
