-- Steps of the examples of lines that are given up.
use Rattle.std.specs.Prelude.{List, [], ◌∷◌, ◌++◌}
use Rattle.words.specs.declared.entry.Step.{Step}
use Rattle.words.specs.declared.entry.Step.TheVariants.{Core, Evict}
use Rattle.part_tests.specs.Examples.{arrive, cores, asks_alone, asks_another, store_steps, gives_up}
use Rattle.part_tests.specs.Sharing.{untouched_steps}
use Rattle.part_tests.specs.Conflicts.{own_store_steps}

-- hart 0's transaction gives up the line that it stored to: Put, PutAck; then hart 1 wants the block
abbrev pub spilled_steps : List Step
spilled_steps = store_steps 0 ++ gives_up ++ cores 1 2 ++ asks_another 1

-- hart 0 aborts: it asks for the block, undoes its one record, and ends
abbrev pub undone_steps : List Step
undone_steps = spilled_steps ++ Core 0 ∷ asks_alone 0 ++ cores 0 2

-- store_and_load: hart 0 gives up the line that it stored to, and asks for it to load
abbrev pub refilled_steps : List Step
refilled_steps = store_steps 0 ++ gives_up ++ asks_alone 0

-- gives it up again
abbrev pub given_up_again_steps : List Step
given_up_again_steps = refilled_steps ++ gives_up

-- asks again, loads and commits
abbrev pub committed_steps : List Step
committed_steps = given_up_again_steps ++ asks_alone 0 ++ cores 0 2

-- load_store_and_commit: hart 0 stores to its E line in a transaction, and gives the line up
abbrev pub marked_put_steps : List Step
marked_put_steps = Core 0 ∷ asks_alone 0 ++ cores 0 3 ++ gives_up

-- it commits; hart 1 wants to load, its request arrives, and hart 0 answers the forward
abbrev pub answered_steps : List Step
answered_steps = marked_put_steps ++ Core 0 ∷ cores 1 2 ++ arrive (0 ∷ 1 ∷ [])

-- the answer arrives, the grant and the Done, and hart 1 loads
abbrev pub forgotten_steps : List Step
forgotten_steps = answered_steps ++ arrive (1 ∷ 0 ∷ 0 ∷ []) ++ Core 1 ∷ []

-- load_then_store: two harts share the block, hart 0 loads it in its transaction, and gives its line up
abbrev pub dropped_steps : List Step
dropped_steps = untouched_steps ++ Core 0 ∷ Evict 0 256 ∷ []

-- hart 1, in a transaction too, loads and wants to store
abbrev pub still_refused_steps : List Step
still_refused_steps = dropped_steps ++ cores 1 2 ++ asks_another 1

-- store_crosswise on one hart whose cache has one line: the second block needs room
abbrev pub crowded_steps : List Step
crowded_steps = own_store_steps 0 ++ cores 0 4

-- store_to_both by hart 0, which then gives up block 257; before that Put is over, it is to give up block 256 too
abbrev pub second_put_steps : List Step
second_put_steps = cores 0 2 ++ asks_alone 0 ++ Core 0 ∷ asks_alone 0 ++ Core 0 ∷ Evict 0 257 ∷ Evict 0 256 ∷ []

-- the Put arrives, and the PutAck; and then again
abbrev pub later_put_steps : List Step
later_put_steps = second_put_steps ++ arrive (0 ∷ 0 ∷ []) ++ Evict 0 256 ∷ []
