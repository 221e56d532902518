-- Steps of the examples of how a block is shared, and handed from hart to hart.
use Rattle.std.specs.Prelude.{ℕ, List, [], ◌∷◌, ◌++◌}
use Rattle.words.specs.declared.entry.Step.{Step}
use Rattle.words.specs.declared.entry.Step.TheVariants.{Core, Evict}
use Rattle.part_tests.specs.Examples.{arrive, cores, asks_alone, asks_another}

-- load_and_store by hart 0: the line is granted E, and the store needs no message
abbrev pub silent_steps : List Step
silent_steps = Core 0 ∷ asks_alone 0 ++ cores 0 2

-- then hart 1 loads
abbrev pub shared_steps : List Step
shared_steps = silent_steps ++ Core 1 ∷ asks_another 1 ++ Core 1 ∷ []

-- or hart 0 gives up its line, and hart 1's request overtakes the Put: the forward arrives, the answer carries the Put's content,
-- and the Put is held until the Done has arrived
abbrev pub overtaken_steps : List Step
overtaken_steps = silent_steps ++ Evict 0 256 ∷ cores 1 2 ++ arrive (1 ∷ 2 ∷ 0 ∷ 1 ∷ 2 ∷ 1 ∷ 0 ∷ 0 ∷ []) ++ Core 1 ∷ []

-- load_then_store: hart 0 asks for the block to load it
abbrev pub exclusive_steps : List Step
exclusive_steps = Core 0 ∷ asks_alone 0

-- it loads, begins a transaction, and gives the unmarked line up
abbrev pub written_back_steps : List Step
written_back_steps = exclusive_steps ++ cores 0 2 ++ Evict 0 256 ∷ []

-- it waits for its Put to be over: the Put arrives, and the PutAck
abbrev pub returned_steps : List Step
returned_steps = written_back_steps ++ Core 0 ∷ arrive (0 ∷ 0 ∷ [])

-- load_then_store: hart 0 loads and begins a transaction, and hart 1 loads too
abbrev pub untouched_steps : List Step
untouched_steps = Core 0 ∷ asks_alone 0 ++ cores 0 2 ++ Core 1 ∷ asks_another 1 ++ Core 1 ∷ []

-- store_number by hart 0, which gives up its line; then by hart 1, whose request overtakes the Put, and whose own Put does so too
abbrev pub outdated_steps : List Step
outdated_steps = Core 0 ∷ asks_alone 0 ++ Core 0 ∷ Evict 0 256 ∷ cores 1 2 ++ arrive (1 ∷ 2 ∷ 2 ∷ 1 ∷ 1 ∷ []) ++ Core 1 ∷ Evict 1 256 ∷ arrive (1 ∷ 1 ∷ 0 ∷ 0 ∷ [])

-- load_then_store: lui and the first load, of a block that is shared by now
abbrev pub load_steps : ℕ → List Step
load_steps i = Core i ∷ asks_alone i ++ Core i ∷ []

-- store_and_upgrade: hart 0 stores to the block, loads it in a transaction, and then harts 1 and 2 load it
abbrev pub three_share_steps : List Step
three_share_steps = silent_steps ++ cores 0 2 ++ Core 1 ∷ asks_another 1 ++ Core 1 ∷ load_steps 2

-- hart 0 wants to store again, and its request arrives
abbrev pub forwarded_steps : List Step
forwarded_steps = three_share_steps ++ Core 0 ∷ arrive (0 ∷ [])

-- the two forwards arrive, their answers, the grant, and the Done
abbrev pub upgraded_steps : List Step
upgraded_steps = forwarded_steps ++ arrive (1 ∷ 2 ∷ 1 ∷ 2 ∷ 0 ∷ 0 ∷ [])
