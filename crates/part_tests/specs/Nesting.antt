-- Steps of the examples of nested transactions.
use Rattle.std.specs.Prelude.{List, [], ◌∷◌, ◌++◌}
use Rattle.words.specs.declared.entry.Step.{Step}
use Rattle.words.specs.declared.entry.Step.TheVariants.{Core}
use Rattle.part_tests.specs.Examples.{cores, asks_alone}

-- commit_twice up to the store
abbrev pub nested_steps : List Step
nested_steps = cores 0 3 ++ asks_alone 0 ++ Core 0 ∷ []

-- abort_within: the block is asked for and stored to; then TABORT, one record undone, and the end
abbrev pub within_steps : List Step
within_steps = cores 0 4 ++ asks_alone 0 ++ cores 0 4
