-- The line of a moment: an object of JavaScript.
use Rattle.std.specs.Prelude.{ℕ, ◌*◌, ◌++◌, cond, nat_lt, List, [], ◌∷◌, Option, Some, None, codes, decimal}
use Rattle.std.specs.List.{concat, flat_map}
use Rattle.words.specs.Limits.{block_bytes}
use Rattle.words.specs.declared.entry.Entry.{Entry}
use Rattle.words.specs.declared.entry.Entry.TheVariants.{Retire, Abort, Trap, Refuse, Spill}
use Rattle.words.specs.declared.entry.Step.{Step}
use Rattle.words.specs.declared.entry.Step.TheVariants.{Core, Evict, Deliver}
use Rattle.texts.specs.Numerals.{hexadecimal}
use Rattle.network.specs.declared.net.Flight.{Flight}
use Rattle.protocol.specs.Machine.{Machine}
use Rattle.protocol.specs.Messages.{block_of, receiver_of, shown as shown_message}
use Rattle.disassembler.specs.Labels.{label}
use Rattle.disassembler.specs.Tables.{Table, no_symbols}
use Rattle.render.specs.Parts.{block_text}
use Rattle.render.specs.Blocks.{directory_text}
use Rattle.render.specs.Entries.{entry_line}
use Rattle.machine.specs.States.{State, setting_of, shown}
use Rattle.schedule.specs.Moments.{Moment}
use Rattle.pages.specs.Names.{name_text}
use Rattle.pages.specs.Harts.{hart_text}
use Rattle.pages.specs.Flights.{flight_item, first_told}
use Rattle.pages.specs.Memory.{word_item}

-- the hart that a step changes at most: the one that makes it, or to which the message comes
abbrev pub actor_of : Step → Option Flight → Option ℕ
actor_of (Core hart) arrival = Some hart
actor_of (Evict hart block) arrival = Some hart
actor_of (Deliver number) None = None
actor_of (Deliver number) (Some flight) = receiver_of (shown_message flight.message)

-- the name of the address that an entry has, if it has one
abbrev pub entry_name : Table → Entry → List ℕ
entry_name names (Retire i pc word write load store) = name_text (label names pc)
entry_name names (Abort i cause) = []
entry_name names (Trap i cause pc) = name_text (label names pc)
entry_name names (Refuse i requester block) = []
entry_name names (Spill i block) = []

-- the line of an entry without names, which ends with a line end, between the quotes that may have one; and its name
abbrev pub entry_text : Table → Entry → List ℕ
entry_text names e = codes "{entry:`" ++ (entry_line no_symbols e ++ (codes "`," ++ entry_name names e))

abbrev pub event_text : Table → Option Entry → List ℕ
event_text names None = codes "{"
event_text names (Some e) = entry_text names e

abbrev pub step_text : Step → List ℕ
step_text (Core hart) = codes "step:\"core\","
step_text (Evict hart block) = concat (codes "step:\"evict " ∷ block_text block ∷ codes "\"," ∷ [])
step_text (Deliver number) = codes "step:\"deliver\","

-- the number of the message that arrived, and what the directory knows of its block then
abbrev pub known_text : Machine → ℕ → ℕ → List ℕ
known_text w number b = concat (codes "arrival:" ∷ decimal number ∷ codes ",directory:\"" ∷ hexadecimal (block_bytes * b) ∷ codes " " ∷ directory_text (w.entries b) ∷ codes "\"," ∷ [])

abbrev pub arrived_text : Machine → Flight → List ℕ
arrived_text w f = known_text w f.number (block_of (shown_message f.message))

abbrev pub arrival_text : Machine → Option Flight → List ℕ
arrival_text w None = []
arrival_text w (Some f) = arrived_text w f

-- the hart that the step changed, if it is one of the machine's
abbrev pub changed_text : Table → ℕ → State → ℕ → List ℕ
changed_text names sets m i = codes "hart:" ++ (hart_text names sets m i ++ codes ",")

abbrev pub actor_text : Table → ℕ → State → Option ℕ → List ℕ
actor_text names sets m None = []
actor_text names sets m (Some i) = cond (nat_lt i (setting_of m).count) (changed_text names sets m i) []

-- the messages in flight, where so many had been sent before the step, and the words
abbrev pub rest_text : ℕ → List ℕ → ℕ → State → List ℕ
rest_text sets words sent m = codes "flights:[" ++ (flat_map (flight_item (first_told sent m.sent)) m.flights ++ (codes "],words:[" ++ (flat_map (word_item sets m) words ++ codes "]},\n")))

-- all of it, with these names, where the caches have so many sets and these words are shown
abbrev pub moment_text : Table → ℕ → List ℕ → Moment → List ℕ
moment_text names sets words m = event_text names m.entry ++ (step_text m.step ++ (arrival_text (shown sets m.after) m.arrival
    ++ (actor_text names sets m.after (actor_of m.step m.arrival) ++ rest_text sets words m.sent m.after)))

-- those of moments, one after another
abbrev pub moments_text : Table → ℕ → List ℕ → List Moment → List ℕ
moments_text names sets words ms = flat_map (moment_text names sets words) ms
