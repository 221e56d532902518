-- What the directory knows of a block, and what it does with a message about it.
--
-- As in LogTM (HPCA 2006) the directory names an owner or the sharers, forwards a request to those who may conflict, and goes on
-- naming an owner that gave up a marked line (sticky), so that it can still refuse. Here a block is busy from a request to its
-- Done; a sticky owner that asks again is always given M, also for a read, so that what it wrote is never in a shared line; a
-- sticky owner that acknowledges is forgotten when the Done arrives; and there is no O state: the content of an owner that is
-- read goes to memory. A block that no other hart shares is given E for a read, as in the MESI protocol (Papamarcos and Patel,
-- ISCA 1984).
use Rattle.std.specs.Prelude.{ℕ, zero, suc, Bool, true, false, not, cond, ◌==◌, ◌&&◌, ◌||◌, Option, Some, None, unwrap_or, List, [], ◌∷◌, ◌++◌}
use Rattle.words.specs.declared.stamp.Stamp.{Stamp}
use Rattle.words.specs.declared.message.Kind.{Kind}
use Rattle.words.specs.declared.message.Kind.TheVariants.{Read, Write}
use Rattle.words.specs.declared.message.LineState.{LineState}
use Rattle.words.specs.declared.message.LineState.TheVariants.{Shared, Exclusive, Modified}
use Rattle.protocol.specs.Messages.{Block, Granted, Message, Get, Put, Done, Grant, Forward, PutAck, Ack, Nack}

-- who alone may hold a block in E or M, or has given it up in a transaction that used it
pub data Owner : Type 0 where
  Nobody : Owner
  Owned : (h : ℕ) → Owner
  Sticky : (h : ℕ) → Owner

-- the request that a block is busy with, and what it was given
pub record Busy : Type 0 where
  pub requester : ℕ
  pub give : LineState

-- the entry of a block: an owner leaves no sharers, and a sharer may hold nothing
pub record DirEntry : Type 0 where
  pub owner : Owner
  pub sharers : ℕ → Bool
  pub busy : Option Busy

abbrev pub first_entry : DirEntry
first_entry = record { owner = Nobody; sharers = λ h. false; busy = None }

-- what a message leaves: the block's entry, its words in memory, and the messages sent
pub record Served : Type 0 where
  pub entry : DirEntry
  pub memory : Block
  pub sent : List Message

abbrev pub unchanged : DirEntry → Block → Served
unchanged e memory = record { entry = e; memory = memory; sent = [] }

-- Requests

-- whether no hart below n but r is a sharer
abbrev pub is_alone : ℕ → ℕ → (ℕ → Bool) → Bool
is_alone zero r sharers = true
is_alone (suc n) r sharers = is_alone n r sharers && ((n == r) || not (sharers n))

-- S for a read and M for a write
abbrev pub give_shared : Kind → LineState
give_shared Read = Shared
give_shared Write = Modified

-- what r is given: where nobody owns the block E or S for a read, and M for a write; its owner, sticky or not, always M
abbrev pub give_for : Bool → Owner → ℕ → Kind → LineState
give_for alone Nobody r Read = cond alone Exclusive Shared
give_for alone Nobody r Write = Modified
give_for alone (Owned o) r kind = cond (o == r) Modified (give_shared kind)
give_for alone (Sticky o) r kind = cond (o == r) Modified (give_shared kind)

-- which harts have to answer r: an owner always; where nobody owns the block each other sharer for a write, and none for a read
abbrev pub must_answer : Owner → (ℕ → Bool) → ℕ → Kind → ℕ → Bool
must_answer Nobody sharers r Read h = false
must_answer Nobody sharers r Write h = not (h == r) && sharers h
must_answer (Owned o) sharers r kind h = not (h == r) && (h == o)
must_answer (Sticky o) sharers r kind h = not (h == r) && (h == o)

-- a forward to each hart below n that has to answer
abbrev pub forwards : ℕ → (ℕ → Bool) → ℕ → Kind → ℕ → Option Stamp → List Message
forwards zero expect b kind r stamp = []
forwards (suc n) expect b kind r stamp = forwards n expect b kind r stamp ++ cond (expect n) (Forward n b kind r stamp ∷ []) []

-- by the entry, among n harts
abbrev pub given_now : ℕ → ℕ → Kind → DirEntry → LineState
given_now n r kind e = give_for (is_alone n r e.sharers) e.owner r kind

abbrev pub expected_now : ℕ → Kind → DirEntry → ℕ → Bool
expected_now r kind e = must_answer e.owner e.sharers r kind

abbrev pub granted_now : ℕ → ℕ → Kind → DirEntry → Block → Granted
granted_now n r kind e memory = record { give = given_now n r kind e; content = memory; expect = expected_now r kind e }

-- r asks for block b, which isn't busy: the grant comes first
abbrev pub get_row : ℕ → ℕ → ℕ → Kind → Option Stamp → DirEntry → Block → Served
get_row n r b kind stamp e memory = record {
  entry = record e { busy = Some (record { requester = r; give = given_now n r kind e }) };
  memory = memory;
  sent = Grant r b (granted_now n r kind e memory) ∷ forwards n (expected_now r kind e) b kind r stamp;
}

-- Puts

abbrev pub is_owned_by : ℕ → Owner → Bool
is_owned_by r Nobody = false
is_owned_by r (Owned o) = o == r
is_owned_by r (Sticky o) = false

-- an owner that gave up a marked line is still named
abbrev pub owner_put : Bool → ℕ → Owner
owner_put marked r = cond marked (Sticky r) Nobody

-- r gives up block b, which isn't busy: its content becomes memory's if r is the owner; a Put of one that no longer is changes
-- nothing
abbrev pub put_row : ℕ → ℕ → Block → Bool → DirEntry → Block → Served
put_row r b content marked e memory =
    cond (is_owned_by r e.owner)
    (record { entry = record e { owner = owner_put marked r }; memory = content; sent = PutAck r b ∷ [] })
    (record { entry = e; memory = memory; sent = PutAck r b ∷ [] })

-- Ends of requests

-- who owns the block once r has what it was given
abbrev pub owner_done : ℕ → LineState → Owner
owner_done r Shared = Nobody
owner_done r Exclusive = Owned r
owner_done r Modified = Owned r

-- and who shares it: r beside the sharers, or beside the owner that was read; a sticky owner has no line
abbrev pub sharer_done : Owner → (ℕ → Bool) → ℕ → LineState → ℕ → Bool
sharer_done Nobody sharers r Shared h = (h == r) || sharers h
sharer_done (Owned o) sharers r Shared h = (h == r) || (h == o)
sharer_done (Sticky o) sharers r Shared h = h == r
sharer_done owner sharers r Exclusive h = false
sharer_done owner sharers r Modified h = false

-- memory takes the content of an owner that was read
abbrev pub memory_done : Owner → LineState → Option Block → Block → Block
memory_done (Owned o) Shared content memory = unwrap_or content memory
memory_done Nobody Shared content memory = memory
memory_done (Sticky o) Shared content memory = memory
memory_done owner Exclusive content memory = memory
memory_done owner Modified content memory = memory

-- r's request was granted
abbrev pub done_row : ℕ → LineState → Option Block → DirEntry → Block → Served
done_row r give content e memory = record {
  entry = record { owner = owner_done r give; sharers = sharer_done e.owner e.sharers r give; busy = None };
  memory = memory_done e.owner give content memory;
  sent = [];
}

-- r's request was refused
abbrev pub done_refused_row : DirEntry → Block → Served
done_refused_row e memory = record { entry = record e { busy = None }; memory = memory; sent = [] }

-- a Done from the one whose request the block is busy with; another changes nothing (and never occurs in a machine)
abbrev pub done_of : Option Busy → ℕ → Bool → Option Block → DirEntry → Block → Served
done_of None r ok content e memory = unchanged e memory
done_of (Some q) r ok content e memory =
    cond (q.requester == r)
    (cond ok (done_row r q.give content e memory) (done_refused_row e memory))
    (unchanged e memory)

-- A request or a Put waits while the block is busy
abbrev pub unless_busy : Option Busy → Served → Option Served
unless_busy None s = Some s
unless_busy (Some q) s = None

-- what the directory of a machine of n harts does with a message: None where it is held, and stays in flight. One for a hart it
-- passes over (and that never occurs in a machine)
abbrev pub directory_row : ℕ → Message → DirEntry → Block → Option Served
directory_row n (Get from b kind stamp) e memory = unless_busy e.busy (get_row n from b kind stamp e memory)
directory_row n (Put from b content marked) e memory = unless_busy e.busy (put_row from b content marked e memory)
directory_row n (Done from b ok content) e memory = Some (done_of e.busy from ok content e memory)
directory_row n (Grant to b granted) e memory = Some (unchanged e memory)
directory_row n (Forward to b kind requester stamp) e memory = Some (unchanged e memory)
directory_row n (PutAck to b) e memory = Some (unchanged e memory)
directory_row n (Ack from to b content) e memory = Some (unchanged e memory)
directory_row n (Nack from to b stamp) e memory = Some (unchanged e memory)
