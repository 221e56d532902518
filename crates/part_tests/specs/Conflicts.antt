-- Steps of the examples of conflicts: who is refused, and who is aborted.
use Rattle.std.specs.Prelude.{ℕ, List, [], ◌∷◌, ◌++◌}
use Rattle.words.specs.declared.entry.Step.{Step}
use Rattle.words.specs.declared.entry.Step.TheVariants.{Core}
use Rattle.part_tests.specs.Examples.{arrive, cores, asks_alone, asks_another, store_steps}
use Rattle.part_tests.specs.Sharing.{load_steps}

-- hart 1 wants the block that hart 0's transaction stored to
abbrev pub refused_steps : List Step
refused_steps = store_steps 0 ++ cores 1 2 ++ asks_another 1

-- hart 0 commits, and hart 1 asks again
abbrev pub granted_steps : List Step
granted_steps = refused_steps ++ Core 0 ∷ asks_another 1 ++ Core 1 ∷ []

-- store_crosswise up to the first store
abbrev pub own_store_steps : ℕ → List Step
own_store_steps i = cores i 4 ++ asks_alone i ++ Core i ∷ []

-- each stores to its block, hart 0 asks for hart 1's, and then hart 1 for hart 0's; that request ends in an abort, of one record
abbrev pub crossed_steps : List Step
crossed_steps = own_store_steps 0 ++ own_store_steps 1 ++ cores 0 3 ++ asks_another 0 ++ cores 1 3 ++ asks_another 1 ++ cores 1 2

-- hart 0 asks again, stores and commits, and hart 1 begins again
abbrev pub resolved_steps : List Step
resolved_steps = crossed_steps ++ asks_another 0 ++ cores 0 2 ++ Core 1 ∷ []

-- four harts load, the second from the first
abbrev pub all_load_steps : List Step
all_load_steps = load_steps 0 ++ Core 1 ∷ asks_another 1 ++ Core 1 ∷ load_steps 2 ++ load_steps 3

-- then hart 3 loads again in a transaction; hart 0, in one too, wants to store, and three answers arrive before the grant
abbrev pub sharers_steps : List Step
sharers_steps = all_load_steps ++ cores 3 2 ++ cores 0 3 ++ arrive (0 ∷ 1 ∷ 2 ∷ 3 ∷ 1 ∷ 2 ∷ 3 ∷ 0 ∷ 0 ∷ [])
