-- What holds of every machine that steps lead to: requests, lines, acknowledgements, marks, values, and undos. Each is said of a
-- machine w beside the flat state f that belongs to it.
--
-- A request is over when its Done is sent, so a hart can be the one that several blocks are busy with. An entry that names a hart as
-- owner is one that is its own, sticky or not.
use Rattle.std.specs.Prelude.{ℕ, ◌≡◌, ◌≢◌, ◌<◌, ◌≤◌, ◌⊎◌, ◌↔◌, ◌||◌, List, length, AllPairs, Contains, Bool, true, false, Option, Some, None, Ok, IsSome}
use Rattle.words.specs.declared.stamp.Stamp.{Stamp}
use Rattle.words.specs.declared.message.Kind.{Kind}
use Rattle.words.specs.declared.message.LineState.{LineState}
use Rattle.words.specs.declared.message.LineState.TheVariants.{Shared, Exclusive, Modified}
use Rattle.table.specs.declared.effect.Effect.{Effect}
use Rattle.table.specs.declared.effect.Act.TheVariants as act
use Rattle.flat.specs.State.{Flat, has_read, has_written}
use Rattle.flat.specs.Causes.{next_of}
use Rattle.protocol.specs.Messages.{Block, Granted, Message, Get, Put, Done, Grant, Forward, PutAck, Ack, Nack, block_of}
use Rattle.protocol.specs.Lines.{Line, refuses}
use Rattle.protocol.specs.Hart.{Hart, Request, PutOut, log_of, overflow_of, flat_hart}
use Rattle.words.specs.Limits.{log_records}
use Rattle.words.specs.LineStates.{is_owned}
use Rattle.protocol.specs.Directory.{Owned, Sticky}
use Rattle.protocol.specs.Caches.{Geometry, StandsBeside, HasRoom}
use Rattle.protocol.specs.Machine.{Machine}
use Rattle.isolation.specs.Belongs.{IsAborting}
use Rattle.protocol.specs.Values.{owner_of, in_place, peek, is_logged}

-- Messages

-- whose a message is: the hart's that it is from, or that it goes to from the directory
abbrev pub whose : Message → ℕ
whose (Get from block kind stamp) = from
whose (Put from block content marked) = from
whose (Done from block ok content) = from
whose (Grant to block granted) = to
whose (Forward to block kind requester stamp) = to
whose (PutAck to block) = to
whose (Ack from to block content) = from
whose (Nack from to block stamp) = from

-- the sorts of messages, numbered
abbrev pub sort_of : Message → ℕ
sort_of (Get from block kind stamp) = 0
sort_of (Put from block content marked) = 1
sort_of (Done from block ok content) = 2
sort_of (Grant to block granted) = 3
sort_of (Forward to block kind requester stamp) = 4
sort_of (PutAck to block) = 5
sort_of (Ack from to block content) = 6
sort_of (Nack from to block stamp) = 7

-- two messages of one sort, about one block, and of one hart
pub record IsAlike (m n : Message) : Type 0 where
  pub sort : sort_of m ≡ sort_of n
  pub block : block_of m ≡ block_of n
  pub hart : whose m ≡ whose n

-- a message is in flight
abbrev pub IsInFlight : Machine → Message → Type 0
IsInFlight w m = (key : ℕ) × (w.net key ≡ Some m)

-- Requests

-- block b is busy with hart r's request, which is given this
abbrev pub IsBusyWith : Machine → ℕ → ℕ → LineState → Type 0
IsBusyWith w b r give = (w.entries b).busy ≡ Some (record { requester = r; give = give })

-- hart i waits for block b
abbrev pub WaitsFor : Machine → ℕ → ℕ → Type 0
WaitsFor w i b = (r : Request) × ((w.harts i).request ≡ Some r) × (r.block ≡ b)

-- hart i's Get for block b is in flight
abbrev pub IsAsking : Machine → ℕ → ℕ → Type 0
IsAsking w i b = (kind : Kind) × (stamp : Option Stamp) × IsInFlight w (Get i b kind stamp)

-- hart i's Done for block b is in flight
abbrev pub IsEnding : Machine → ℕ → ℕ → Type 0
IsEnding w i b = (ok : Bool) × (content : Option Block) × IsInFlight w (Done i b ok content)

-- the messages about a block that it is busy with are those of its one request; a Get is its hart's request, and a Put its hart's
-- Put; and these two are for different blocks. And the other way round: the hart whose request a block is busy with waits for that
-- block, and its Get has arrived; or its Done is in flight. So a hart that waits for a block is the requester of no other busy block,
-- unless its Done for that one is in flight
pub record OneRequest (w : Machine) : Type 0 where
  pub get : (i b : ℕ) (kind : Kind) (stamp : Option Stamp) → IsInFlight w (Get i b kind stamp) → WaitsFor w i b
  pub grant : (i b : ℕ) (g : Granted) → IsInFlight w (Grant i b g) → WaitsFor w i b × IsBusyWith w b i g.give
  pub forward : (j b r : ℕ) (kind : Kind) (stamp : Option Stamp) → IsInFlight w (Forward j b kind r stamp) → WaitsFor w r b × ((give : LineState) × IsBusyWith w b r give)
  pub ack : (j r b : ℕ) (content : Option Block) → IsInFlight w (Ack j r b content) → WaitsFor w r b × ((give : LineState) × IsBusyWith w b r give)
  pub nack : (j r b : ℕ) (stamp : Option Stamp) → IsInFlight w (Nack j r b stamp) → WaitsFor w r b × ((give : LineState) × IsBusyWith w b r give)
  pub done : (i b : ℕ) (ok : Bool) (content : Option Block) → IsInFlight w (Done i b ok content) → (give : LineState) × IsBusyWith w b i give
  pub put : (i b : ℕ) (content : Block) (marked : Bool) → IsInFlight w (Put i b content marked) → (w.harts i).put ≡ Some (record { block = b; content = content; marked = marked })
  pub put_ack : (i b : ℕ) → IsInFlight w (PutAck i b) → (p : PutOut) × ((w.harts i).put ≡ Some p) × (p.block ≡ b)
  pub apart : (i b : ℕ) (p : PutOut) → i < w.setting.count → WaitsFor w i b → (w.harts i).put ≡ Some p → p.block ≢ b
  pub busy : (b r : ℕ) (give : LineState) → IsBusyWith w b r give → (r < w.setting.count) × ((WaitsFor w r b × (IsAsking w r b → ⊥)) ⊎ IsEnding w r b)
  pub elsewhere : (r b c : ℕ) (give : LineState) → WaitsFor w r b → c ≢ b → IsBusyWith w c r give → IsEnding w r c

-- Lines

-- hart i's request for block b was granted, and the directory hasn't been told yet
abbrev pub IsGranted : Machine → ℕ → ℕ → LineState → Type 0
IsGranted w b i give = IsBusyWith w b i give × ((content : Option Block) × IsInFlight w (Done i b true content))

-- the entry names hart i, or the Done ok of its request is in flight
abbrev pub IsNamed : Machine → ℕ → ℕ → Type 0
IsNamed w b i = ((w.entries b).owner ≡ Owned i) ⊎ (((w.entries b).owner ≡ Sticky i) ⊎ (((w.entries b).sharers i ≡ true) ⊎ ((give : LineState) × IsGranted w b i give)))

-- an E or M line is the owner's and its block's only line; the hart of a line is named; at a sticky entry only that of a Done ok on
-- its way has a line; and every line has the value in place
pub record LinesAgree (keys : ℕ) (w : Machine) : Type 0 where
  pub owner : (i b : ℕ) (l : Line) → i < w.setting.count → (w.harts i).lines b ≡ Some l → is_owned l.state ≡ true → owner_of keys w b ≡ Some i
  pub only : (i j b : ℕ) (l : Line) → i < w.setting.count → j < w.setting.count → j ≢ i → (w.harts i).lines b ≡ Some l → is_owned l.state ≡ true → (w.harts j).lines b ≡ None
  pub named : (i b : ℕ) (l : Line) → i < w.setting.count → (w.harts i).lines b ≡ Some l → IsNamed w b i
  pub sticky : (i h b : ℕ) (l : Line) → i < w.setting.count → (w.entries b).owner ≡ Sticky h → (w.harts i).lines b ≡ Some l → (give : LineState) × IsGranted w b i give
  pub value : (i b : ℕ) (l : Line) → i < w.setting.count → (w.harts i).lines b ≡ Some l → l.content ≡ in_place keys w b

-- Rooms

-- the blocks of block b's set that have lines, each once, are no more than the set has ways
abbrev pub SetFits : Geometry → (ℕ → Option Line) → ℕ → Type 0
SetFits g lines b = (held : List ℕ) × AllPairs (λ c d. c ≢ d) held × (length held ≤ g.ways) × ((c : ℕ) → Contains held c ↔ StandsBeside g lines b c)

-- each set of a hart's cache has room for its lines; and a hart that waits for a block of which it has no line has room for one
pub record LinesFit (g : Geometry) (w : Machine) : Type 0 where
  pub sets : (i b : ℕ) → SetFits g (w.harts i).lines b
  pub awaited : (i b : ℕ) → WaitsFor w i b → (w.harts i).lines b ≡ None → HasRoom g (w.harts i).lines b

-- Acknowledgements

-- hart j has no line of block b, and its transaction has neither read nor written it
pub record HasNothing (w : Machine) (f : Flat) (j b : ℕ) : Type 0 where
  pub line : (w.harts j).lines b ≡ None
  pub unread : has_read (f.hart j).tx b ≡ false
  pub unwritten : has_written (f.hart j).tx b ≡ false

-- hart j has no E or M line of block b, and its transaction hasn't written it
pub record MayReadOnly (w : Machine) (f : Flat) (j b : ℕ) : Type 0 where
  pub line : (l : Line) → (w.harts j).lines b ≡ Some l → is_owned l.state ≡ false
  pub unwritten : has_written (f.hart j).tx b ≡ false

-- what is left to a hart that has acknowledged a request which is given S, E or M
abbrev pub GaveUp : Machine → Flat → ℕ → ℕ → LineState → Type 0
GaveUp w f j b Shared = MayReadOnly w f j b
GaveUp w f j b Exclusive = HasNothing w f j b
GaveUp w f j b Modified = HasNothing w f j b

-- who acknowledged has given up: a hart whose Ack is in flight, or kept by a request that nobody refused; and, while a Done ok is in
-- flight, each hart but its sender
pub record Acknowledged (w : Machine) (f : Flat) : Type 0 where
  pub sent : (j r b : ℕ) (content : Option Block) (give : LineState) → IsInFlight w (Ack j r b content) → IsBusyWith w b r give → GaveUp w f j b give
  pub kept : (j r : ℕ) (q : Request) (give : LineState) → j < w.setting.count → r < w.setting.count → j ≢ r → (w.harts r).request ≡ Some q → IsBusyWith w q.block r give → q.answered j ≡ true → q.refused ≡ false → GaveUp w f j q.block give
  pub granted : (j r b : ℕ) (give : LineState) → j < w.setting.count → j ≢ r → IsGranted w b r give → GaveUp w f j b give

-- Marks

-- a line that was read or written has its mark or X; without a line the overflow bit is set
abbrev pub ReadIsMarked : Hart → Option Line → Type 0
ReadIsMarked h None = overflow_of h.tx ≡ true
ReadIsMarked h (Some l) = (l.marks.read || l.marks.overflowed) ≡ true

abbrev pub WriteIsMarked : Hart → Option Line → Type 0
WriteIsMarked h None = overflow_of h.tx ≡ true
WriteIsMarked h (Some l) = (l.state ≡ Modified) × ((l.marks.written || l.marks.overflowed) ≡ true)

-- what a transaction has read or written is marked, or under the overflow bit; and the entry names the hart, for what it has written as
-- owner
pub record IsCovered (keys : ℕ) (w : Machine) (f : Flat) : Type 0 where
  pub read : (i b : ℕ) → i < w.setting.count → has_read (f.hart i).tx b ≡ true → ReadIsMarked (w.harts i) ((w.harts i).lines b) × IsNamed w b i
  pub written : (i b : ℕ) → i < w.setting.count → has_written (f.hart i).tx b ≡ true → WriteIsMarked (w.harts i) ((w.harts i).lines b) × (((w.entries b).owner ≡ Owned i) ⊎ (((w.entries b).owner ≡ Sticky i) ⊎ (owner_of keys w b ≡ Some i)))

-- Values and undos

-- no two logs have a record of one block; with the logs undone what is in place is flat memory
pub record LogsUndo (keys : ℕ) (w : Machine) (f : Flat) : Type 0 where
  pub one_log : (i j b : ℕ) → i < w.setting.count → j < w.setting.count → j ≢ i → is_logged (log_of (w.harts i).tx) b ≡ true → is_logged (log_of (w.harts j).tx) b ≡ false
  pub memory : (a : ℕ) → peek keys w a ≡ f.mem a

-- no log has more records than it has room for
abbrev pub LogsFit : Machine → Type 0
LogsFit w = (i : ℕ) → length (log_of (w.harts i).tx) ≤ log_records

-- the request of an undo is forwarded to nobody, and never refused
pub record UndosGoThrough (w : Machine) : Type 0 where
  pub forward : (i j b : ℕ) (kind : Kind) (stamp : Option Stamp) → IsAborting (w.harts i) → IsInFlight w (Forward j b kind i stamp) → ⊥
  pub refused : (i : ℕ) (r : Request) → i < w.setting.count → IsAborting (w.harts i) → (w.harts i).request ≡ Some r → r.refused ≡ false

-- What never occurs

-- each message comes to where it is awaited: a Grant, an Ack and a Nack to a hart that waits for that answer, and hasn't had it; a Done
-- to a block that is busy with its sender's request; a PutAck to a hart whose Put isn't over. Nobody is sent its own request, or answers
-- it, and the owner of a block never asks for it. All messages are of harts that there are, and of a sort, block and hart there is at
-- most one in flight
pub record IsAwaited (w : Machine) : Type 0 where
  pub grant : (i b : ℕ) (g : Granted) → IsInFlight w (Grant i b g) → (r : Request) × ((w.harts i).request ≡ Some r) × (r.block ≡ b) × (r.grant ≡ None)
  pub forward : (j b r : ℕ) (kind : Kind) (stamp : Option Stamp) → IsInFlight w (Forward j b kind r stamp) → j ≢ r
  pub ack : (j i b : ℕ) (content : Option Block) → IsInFlight w (Ack j i b content) → (j ≢ i) × ((r : Request) × ((w.harts i).request ≡ Some r) × (r.block ≡ b) × (r.answered j ≡ false))
  pub nack : (j i b : ℕ) (stamp : Option Stamp) → IsInFlight w (Nack j i b stamp) → (j ≢ i) × ((r : Request) × ((w.harts i).request ≡ Some r) × (r.block ≡ b) × (r.answered j ≡ false))
  pub done : (i b : ℕ) (ok : Bool) (content : Option Block) → IsInFlight w (Done i b ok content) → (give : LineState) × IsBusyWith w b i give
  pub put_ack : (i b : ℕ) → IsInFlight w (PutAck i b) → (p : PutOut) × ((w.harts i).put ≡ Some p) × (p.block ≡ b)
  pub owner : (i b : ℕ) (kind : Kind) (stamp : Option Stamp) → IsInFlight w (Get i b kind stamp) → (w.entries b).busy ≡ None → (w.entries b).owner ≢ Owned i
  pub from_hart : (m : Message) → IsInFlight w m → whose m < w.setting.count
  pub once : (k l : ℕ) (m n : Message) → w.net k ≡ Some m → w.net l ≡ Some n → IsAlike m n → k ≡ l

-- hart i's grant for block b: it is in flight, or the hart's request has kept it
abbrev pub HasGrant : Machine → ℕ → ℕ → Granted → Type 0
HasGrant w i b g = IsInFlight w (Grant i b g) ⊎ ((r : Request) × ((w.harts i).request ≡ Some r) × (r.block ≡ b) × (r.grant ≡ Some g))

-- the word at hart i's pc is about to do this
abbrev pub DoesNext : Machine → ℕ → Effect → Type 0
DoesNext w i e = next_of w.setting (flat_hart (w.harts i)) ≡ Ok e

-- the cases of the rows that never occur. An entry with an owner, sticky or not, has no sharers. A hart that has a line is given M,
-- never S or E. A hart outside transactions refuses nothing. A grant expects only others of the harts that there are; who answers a
-- request is expected by its grant, and so is each hart whose answer it has kept. A break never retires, and a commit and a TABORT
-- only in a transaction.
--
-- IsAwaited says the rest. An answer comes to a request that awaits it (ack, nack), and a Grant to one that has none; nor are two
-- Grants to one hart in flight for one block, so a second one never comes (grant, once). A Done comes to a block that is busy with
-- its sender's request (done), and a PutAck to a Put that isn't over (put_ack). An owner never asks (owner). And a message for the
-- directory never comes to a hart, nor one for a hart to the directory, since a delivery goes by receiver_of.
pub record RulesOutUnreachable (w : Machine) : Type 0 where
  pub lone : (b h o : ℕ) → ((w.entries b).owner ≡ Owned o) ⊎ ((w.entries b).owner ≡ Sticky o) → (w.entries b).sharers h ≡ false
  pub upgrade : (i b : ℕ) (g : Granted) (l : Line) → i < w.setting.count → HasGrant w i b g → (w.harts i).lines b ≡ Some l → g.give ≡ Modified
  pub outside : (i b : ℕ) (kind : Kind) → i < w.setting.count → (w.harts i).tx ≡ None → refuses ((w.harts i).lines b) (overflow_of (w.harts i).tx) kind ≡ false
  pub expects : (j i b : ℕ) (g : Granted) → i < w.setting.count → HasGrant w i b g → g.expect j ≡ true → (j < w.setting.count) × (j ≢ i)
  pub ack : (j i b : ℕ) (content : Option Block) (g : Granted) → IsInFlight w (Ack j i b content) → HasGrant w i b g → g.expect j ≡ true
  pub nack : (j i b : ℕ) (stamp : Option Stamp) (g : Granted) → IsInFlight w (Nack j i b stamp) → HasGrant w i b g → g.expect j ≡ true
  pub answered : (j i : ℕ) (r : Request) (g : Granted) → i < w.setting.count → (w.harts i).request ≡ Some r → r.answered j ≡ true → HasGrant w i r.block g → g.expect j ≡ true
  pub break : (i : ℕ) (e : Effect) → DoesNext w i e → e.act ≢ act.Break
  pub ends : (i : ℕ) (e : Effect) → DoesNext w i e → (e.act ≡ act.Commit) ⊎ (e.act ≡ act.Abort) → IsSome (w.harts i).tx
