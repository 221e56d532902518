-- Steps of the examples of atomic operations.
use Rattle.std.specs.Prelude.{List, [], ◌∷◌, ◌++◌}
use Rattle.words.specs.declared.entry.Step.{Step}
use Rattle.words.specs.declared.entry.Step.TheVariants.{Core}
use Rattle.part_tests.specs.Examples.{cores, asks_alone, asks_another, store_steps}

-- load_and_add: hart 0 loads, and then hart 1 too
abbrev pub both_load_steps : List Step
both_load_steps = Core 0 ∷ asks_alone 0 ++ cores 0 1 ++ Core 1 ∷ asks_another 1 ++ Core 1 ∷ []

-- hart 0 asks for the block to write it, hart 1 gives its line up, and hart 0 adds
abbrev pub added_steps : List Step
added_steps = both_load_steps ++ asks_another 0 ++ cores 0 1

-- add_twice_and_abort: both operations
abbrev pub added_twice_steps : List Step
added_twice_steps = store_steps 0 ++ cores 0 1

-- TABORT, one record undone, and the end
abbrev pub taken_back_steps : List Step
taken_back_steps = added_twice_steps ++ cores 0 3
