-- What entries count as, and requests.
use Rattle.std.specs.Prelude.{ℕ, zero, suc, not, ◌≡◌, ◌<◌, ◌+◌, ◌*◌, ◌/◌, ◌%◌, ◌==◌, ◌&&◌, ◌++◌, Bool, true, false, List, [], ◌∷◌, Option, Some, None, get_or, if◌then◌else◌, is_some, nat_lt}
use Rattle.std.specs.Option.{option_and_then, option_map_or}
use Rattle.words.specs.declared.cause.AbortCause.{AbortCause}
use Rattle.words.specs.declared.cause.AbortCause.TheVariants as abort
use Rattle.words.specs.declared.entry.Access.{Access}
use Rattle.words.specs.declared.entry.Entry.{Entry}
use Rattle.words.specs.declared.entry.Entry.TheVariants.{Retire, Abort, Trap, Refuse, Spill}
use Rattle.words.specs.declared.entry.Step.{Step}
use Rattle.words.specs.declared.entry.Step.TheVariants.{Core, Evict, Deliver}
use Rattle.words.specs.Limits.{most_harts}
use Rattle.network.specs.declared.net.Flight.{Flight}
use Rattle.flat.specs.Bytes.{put_at}
use Rattle.protocol.specs.Messages.{Message, Get, receiver_of, shown as shown_message}
use Rattle.words.specs.declared.message.Kind.{Kind as Want}
use Rattle.words.specs.declared.message.Kind.TheVariants.{Read, Write}
use Rattle.protocol.specs.Directory.{Busy}
use Rattle.hart.specs.declared.reply.Asked.{Asked as AskedBlock}
use Rattle.protocol.specs.Hart.{Request}
use Rattle.protocol.specs.Machine.{Machine}
use Rattle.machine.specs.States.{shown}
use Rattle.schedule.specs.Moments.{Moment}
use Rattle.table.specs.declared.instr.Instr.{Instr}
use Rattle.table.specs.declared.instr.Instr.TheVariants.{TBegin, TCommit}
use Rattle.table.specs.Table.{decoded}
use Rattle.watch.specs.declared.cells.Counts.{Counts}
use Rattle.watch.specs.declared.cells.Use.{Use}
use Rattle.watch.specs.declared.cells.Use.TheVariants.{Neither, Loaded, Stored}
use Rattle.watch.specs.declared.kinds.Kind.{Kind}
use Rattle.watch.specs.declared.kinds.Kind.TheVariants.{Retired, Begun, Committed, Asked, Conflicted, LogFull, Trapped, Refused, WasRefused, Spilled, LoadHit, LoadMissed, StoreHit, StoreMissed, Upgraded, Held}

-- the number of a kind
abbrev pub index_of : Kind → ℕ
index_of Retired = 0
index_of Begun = 1
index_of Committed = 2
index_of Asked = 3
index_of Conflicted = 4
index_of LogFull = 5
index_of Trapped = 6
index_of Refused = 7
index_of WasRefused = 8
index_of Spilled = 9
index_of LoadHit = 10
index_of LoadMissed = 11
index_of StoreHit = 12
index_of StoreMissed = 13
index_of Upgraded = 14
index_of Held = 15

-- what an abort counts as
abbrev pub kind_of : AbortCause → Kind
kind_of abort.Asked = Asked
kind_of abort.Conflict = Conflicted
kind_of abort.LogFull = LogFull
kind_of (abort.Trapped cause pc) = Trapped

-- what hart i's retired instruction counts as, besides
abbrev pub counts_by : ℕ → Option Instr → List (ℕ × Kind)
counts_by i (Some (TBegin offset)) = (i, Begun) ∷ []
counts_by i (Some TCommit) = (i, Committed) ∷ []
counts_by i other = []

-- an access of hart i is a hit, unless the hart was fresh: then it is the end of a miss or of an upgrade, which was counted when the hart asked. What loads and stores, an
-- atomic operation, is a store's hit, as its request is a store's
abbrev pub hit_by : Bool → ℕ → Option Access → Option Access → List (ℕ × Kind)
hit_by true i store load = []
hit_by false i (Some a) load = (i, StoreHit) ∷ []
hit_by false i None (Some a) = (i, LoadHit) ∷ []
hit_by false i None None = []

-- which harts are fresh: granted a request, they have made no step of their core since
abbrev pub Fresh : Type 0
Fresh = ℕ → Bool

-- what an entry counts as, each with the hart that it is counted for, where these harts were fresh
abbrev pub counts_as : Fresh → Entry → List (ℕ × Kind)
counts_as fresh (Retire i pc word write load store) = (i, Retired) ∷ (counts_by i (decoded word) ++ hit_by (fresh i) i store load)
counts_as fresh (Abort i cause) = (i, kind_of cause) ∷ []
counts_as fresh (Trap i cause pc) = []
counts_as fresh (Refuse i requester block) = (i, Refused) ∷ (requester, WasRefused) ∷ []
counts_as fresh (Spill i block) = (i, Spilled) ∷ []

-- whether something is counted for hart h as this kind
abbrev pub is_count : ℕ → Kind → ℕ × Kind → Bool
is_count h k x = (index_of x.1 == index_of k) && (x.0 == h)

abbrev pub one_if : Bool → ℕ
one_if true = 1
one_if false = 0

-- how many are counted for hart h as this kind
abbrev pub number_in : ℕ → Kind → List (ℕ × Kind) → ℕ
number_in h k [] = 0
number_in h k (x ∷ xs) = one_if (is_count h k x) + number_in h k xs

-- what a moment's entry counts as, if it gave one
abbrev pub counts_if : Fresh → Option Entry → List (ℕ × Kind)
counts_if fresh None = []
counts_if fresh (Some e) = counts_as fresh e

-- what a request counts as: a miss where its hart has no line of the block, and else an upgrade. A load needs no more than a line
abbrev pub kind_asked : Want → Bool → Kind
kind_asked Read has_line = LoadMissed
kind_asked Write false = StoreMissed
kind_asked Write true = Upgraded

-- what a request is for
abbrev pub asked_in : Request → AskedBlock
asked_in r = record { kind = r.kind; block = r.block }

-- a request for a block with which the directory is busy is held there
abbrev pub held_by : ℕ → Option Busy → List (ℕ × Kind)
held_by i None = []
held_by i (Some busy) = (i, Held) ∷ []

-- what hart i's request counts as, if one is out
abbrev pub counts_request : Machine → ℕ → Option Request → List (ℕ × Kind)
counts_request w i None = []
counts_request w i (Some r) = (i, kind_asked r.kind (is_some ((w.harts i).lines r.block))) ∷ held_by i (w.entries r.block).busy

-- whether hart j has a request out for block b, and another hart than i
abbrev pub waits_behind : Machine → ℕ → ℕ → ℕ → Bool
waits_behind w i b j = not (j == i) && option_map_or (λ r. r.block == b) (w.harts j).request false

-- while hart i's request for block b is served, those of the first n harts for that block are held
unfoldable pub held_behind : Machine → ℕ → ℕ → ℕ → List (ℕ × Kind)
held_behind w i b zero = []
held_behind w i b (suc n) = held_behind w i b n ++ (if waits_behind w i b n then (n, Held) ∷ [] else [])

-- a request, as its hart and its block
abbrev pub asked_by : Message → Option (ℕ × ℕ)
asked_by (Get i b kind stamp) = Some (i, b)
asked_by other = None

abbrev pub asks_if : Option Flight → Option (ℕ × ℕ)
asks_if arrival = option_and_then (λ f. asked_by (shown_message f.message)) arrival

abbrev pub counts_served : Machine → Option (ℕ × ℕ) → List (ℕ × Kind)
counts_served w None = []
counts_served w (Some ask) = held_behind w ask.0 ask.1 most_harts

-- what a step that sent a message counts as, if it delivers this request: a core has asked, if its hart's request is out behind the step; the directory serves the
-- request that arrived, which sends a grant
abbrev pub counts_step : Machine → Option (ℕ × ℕ) → Step → List (ℕ × Kind)
counts_step w ask (Core i) = counts_request w i (w.harts i).request
counts_step w ask (Evict i b) = []
counts_step w ask (Deliver number) = counts_served w ask

-- what is asked for in a step, where so many messages had been sent before it and behind it. A request that was refused and is asked again counts again
abbrev pub counts_asked : Machine → ℕ → ℕ → Option (ℕ × ℕ) → Step → List (ℕ × Kind)
counts_asked w before sent ask step = if nat_lt before sent then counts_step w ask step else []

-- all that a moment counts as, where caches have so many sets, and these harts were fresh before it
abbrev pub counts_in : ℕ → Fresh → Moment → List (ℕ × Kind)
counts_in sets fresh m = counts_if fresh m.entry ++ counts_asked (shown sets m.after) m.sent m.after.sent (asks_if m.arrival) m.step

-- the hart that what arrives goes to, if it goes to one
abbrev pub goes_to : Option Flight → Option ℕ
goes_to arrival = option_and_then (λ f. receiver_of (shown_message f.message)) arrival

abbrev pub fresh_at : Machine → Option ℕ → Fresh → Fresh
fresh_at w None fresh = fresh
fresh_at w (Some i) fresh = put_at i (w.harts i).fresh fresh

-- which harts are fresh behind a step, where these were so before it: the one whose core made it is no longer; one that gets a message is if the machine has it so, since
-- that was the last answer to its request, and granted it
abbrev pub fresh_by : Machine → Option ℕ → Step → Fresh → Fresh
fresh_by w to (Core i) fresh = put_at i false fresh
fresh_by w to (Evict i b) fresh = fresh
fresh_by w to (Deliver number) fresh = fresh_at w to fresh

-- behind a moment, and behind some
abbrev pub fresh_behind : ℕ → Fresh → Moment → Fresh
fresh_behind sets fresh m = fresh_by (shown sets m.after) (goes_to m.arrival) m.step fresh

abbrev pub fresh_in : ℕ → Fresh → List Moment → Fresh
fresh_in sets fresh [] = fresh
fresh_in sets fresh (m ∷ ms) = fresh_in sets (fresh_behind sets fresh m) ms

-- how often some moments count for hart h as this kind, where these harts were fresh before the first
abbrev pub number_from : ℕ → ℕ → Kind → Fresh → List Moment → ℕ
number_from sets h k fresh [] = 0
number_from sets h k fresh (m ∷ ms) = number_in h k (counts_in sets fresh m) + number_from sets h k (fresh_behind sets fresh m) ms

-- the same where none was, as where a program begins
abbrev pub none_fresh : Fresh
none_fresh i = false

abbrev pub number_of : ℕ → ℕ → Kind → List Moment → ℕ
number_of sets h k ms = number_from sets h k none_fresh ms

-- the place of a count: those of a kind stand side by side, one for each of eight harts
abbrev pub place_of : ℕ → Kind → ℕ
place_of h k = 8 * index_of k + h % 8 + 128 * (h / 8)

-- what a plain word of hart i counts as, by what it did to memory, where the hart isn't fresh
abbrev pub counts_by_use : ℕ → Use → List (ℕ × Kind)
counts_by_use i Neither = (i, Retired) ∷ []
counts_by_use i Loaded = (i, Retired) ∷ (i, LoadHit) ∷ []
counts_by_use i Stored = (i, Retired) ∷ (i, StoreHit) ∷ []

-- the number of a use, and the place of how many words of a hart were of it, likewise
abbrev pub number_of_use : Use → ℕ
number_of_use Neither = 0
number_of_use Loaded = 1
number_of_use Stored = 2

abbrev pub place_of_use : ℕ → Use → ℕ
place_of_use h did = 8 * number_of_use did + h % 8 + 24 * (h / 8)

abbrev pub words_at : Counts → ℕ → Use → ℕ
words_at c h did = get_or c.words (place_of_use h did) 0

-- what these words add to a count: all of them were retired
abbrev pub of_words : Counts → ℕ → Kind → ℕ
of_words c h Retired = words_at c h Neither + words_at c h Loaded + words_at c h Stored
of_words c h LoadHit = words_at c h Loaded
of_words c h StoreHit = words_at c h Stored
of_words c h other = 0

-- a count: what stands at its place, and what those words add to it. Behind the greatest u64 it goes on from 0
abbrev pub count_at : Counts → ℕ → Kind → ℕ
count_at c h k = (get_or c.counts (place_of h k) 0 + of_words c h k) % 18446744073709551616

-- how often so many plain words of hart i count for hart h as this kind, of which so many loaded alone, and so many stored, where the hart isn't fresh
abbrev pub shares : ℕ → Kind → ℕ → ℕ → ℕ → ℕ → ℕ
shares h k i words loads stores = words * one_if (is_count h k (i, Retired)) + (loads * one_if (is_count h k (i, LoadHit)) + stores * one_if (is_count h k (i, StoreHit)))

-- a count grew by so many; behind the greatest u64 it goes on from 0
abbrev pub Grows : ℕ → ℕ → ℕ → Type 0
Grows before more after = before < 18446744073709551616 → after ≡ (before + more) % 18446744073709551616
