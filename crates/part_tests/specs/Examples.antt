-- What an example says: so many steps of a small program, with these entries, lead to a machine with a property.
use Rattle.std.specs.Prelude.{ℕ, ◌≡◌, Bool, true, false, Option, Some, None, List, [], ◌∷◌, ◌++◌, filter, map, replicate}
use Rattle.words.specs.declared.entry.Entry.{Entry}
use Rattle.words.specs.declared.entry.Entry.TheVariants.{Retire, Abort, Trap, Refuse, Spill}
use Rattle.words.specs.declared.entry.Width.TheVariants.{Word}
use Rattle.words.specs.declared.entry.Step.{Step}
use Rattle.words.specs.declared.entry.Step.TheVariants.{Core, Evict, Deliver}
use Rattle.words.specs.declared.message.LineState.{LineState}
use Rattle.protocol.specs.Messages.{Block}
use Rattle.words.specs.declared.marks.Marks.{Marks}
use Rattle.protocol.specs.Lines.{Line}
use Rattle.protocol.specs.Caches.{Geometry}
use Rattle.protocol.specs.Machine.{Machine, Runs}
use Rattle.part_tests.specs.Programs.{machine}

-- Steps

-- the messages under these keys arrive
abbrev pub arrive : List ℕ → List Step
arrive keys = map (λ key. Deliver key) keys

-- so many core steps of a hart
abbrev pub cores : ℕ → ℕ → List Step
cores i n = replicate n (Core i)

-- hart i asks for a block, and the directory need not ask another: the request arrives, the grant, and the Done
abbrev pub asks_alone : ℕ → List Step
asks_alone i = Core i ∷ arrive (0 ∷ 0 ∷ 0 ∷ [])

-- hart i asks for a block, and another hart has to answer: the request arrives, the forward, the answer, the grant, and the Done
abbrev pub asks_another : ℕ → List Step
asks_another i = Core i ∷ arrive (0 ∷ 1 ∷ 1 ∷ 0 ∷ 0 ∷ [])

-- tbegin, lui, and a store to a block of nobody
abbrev pub store_steps : ℕ → List Step
store_steps i = cores i 2 ++ asks_alone i ++ Core i ∷ []

-- a Put of hart 0's, and its end
abbrev pub gives_up : List Step
gives_up = Evict 0 256 ∷ arrive (0 ∷ 0 ∷ [])

-- What is reached

-- a loaded or stored word, in an entry
abbrev pub loads_word : ℕ → ℕ → ℕ → ℕ → ℕ → ℕ → Entry
loads_word i pc word rd addr v = Retire i pc word (Some (rd, v)) (Some (record { addr = addr; width = Word; value = v })) None

abbrev pub stores_word : ℕ → ℕ → ℕ → ℕ → ℕ → Entry
stores_word i pc word addr v = Retire i pc word None None (Some (record { addr = addr; width = Word; value = v }))

-- a word that is both, by an atomic operation: the old one, which is loaded, and the new one
abbrev pub operates_on_word : ℕ → ℕ → ℕ → ℕ → ℕ → ℕ → ℕ → Entry
operates_on_word i pc word rd addr old new =
    Retire i pc word (Some (rd, old)) (Some (record { addr = addr; width = Word; value = old })) (Some (record { addr = addr; width = Word; value = new }))

-- all entries but those of instructions without an access
abbrev pub is_of_note : Entry → Bool
is_of_note (Retire i pc w x None None) = false
is_of_note (Retire i pc w x (Some l) s) = true
is_of_note (Retire i pc w x None (Some s)) = true
is_of_note (Abort i c) = true
is_of_note (Trap i c p) = true
is_of_note (Refuse i r b) = true
is_of_note (Spill i b) = true

-- a block of zeros, and one with 8192 as its first word
abbrev pub zeros : Block
zeros = 0 ∷ 0 ∷ 0 ∷ 0 ∷ 0 ∷ 0 ∷ 0 ∷ 0 ∷ []

abbrev pub stored_block : Block
stored_block = 8192 ∷ 0 ∷ 0 ∷ 0 ∷ 0 ∷ 0 ∷ 0 ∷ 0 ∷ []

abbrev pub a_line : LineState → Block → Marks → Option Line
a_line state content marks = Some (record { state = state; content = content; marks = marks })

-- caches of one set
abbrev pub one_set_of : ℕ → Geometry
one_set_of ways = record { sets = 1; ways = ways }

-- harts with caches of so many ways: the steps, from this machine, give these entries of note, and lead to a machine with a
-- property
abbrev pub Leads : ℕ → Machine → List Step → List Entry → (Machine → Type 0) → Type 0
Leads ways v steps noted P =
    (w : Machine) × (es : List Entry) × Runs (one_set_of ways) v steps es w × (filter is_of_note es ≡ noted) × P w

-- from the start, with so many harts and this text
abbrev pub Reaches : ℕ → ℕ → List ℕ → List Step → List Entry → (Machine → Type 0) → Type 0
Reaches ways count text steps noted P = Leads ways (machine count text) steps noted P
