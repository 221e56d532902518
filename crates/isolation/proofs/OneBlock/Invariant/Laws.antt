-- What holds of the block in every state that meets the invariant.
use Rattle.std.proofs.Common.{◌≡◌, ◌≢◌, ◌<◌, ◌⊎◌, ◌||◌, ℕ, zero, suc, List, [], ◌∷◌, Bool, true, false, Option, None, Some}
use Rattle.words.specs.declared.stamp.Stamp.{Stamp}
use Rattle.words.specs.declared.message.Kind.{Kind}
use Rattle.words.specs.declared.message.Kind.TheVariants.{Read, Write}
use Rattle.words.specs.declared.message.LineState.{LineState}
use Rattle.words.specs.declared.message.LineState.TheVariants.{Shared, Exclusive, Modified}
use Rattle.protocol.specs.Messages.{Block, Granted}
use Rattle.words.specs.declared.marks.Marks.{Marks}
use Rattle.words.specs.Marks.{is_marked}
use Rattle.protocol.specs.Directory.{Owner, Nobody, Owned, Sticky}
use Rattle.isolation.proofs.OneBlock.Model.State.{sooner, Copy, Absent, Has, Wait, Outside, Aborting, Own, Fwd, Local, One, lay, value_of}
use Rattle.isolation.proofs.OneBlock.Model.Core.{enough}
use Rattle.isolation.proofs.OneBlock.Model.Messages.{refuses, put_data}
use Rattle.isolation.proofs.OneBlock.Invariant.Parts.{Fits}

-- a Done ok of h is in flight
abbrev pub IsGranted : One → ℕ → LineState → Type 0
IsGranted s h g = (d : Option Block) × (s.busy ≡ Some (h, g)) × ((s.hart h).done ≡ Some (true, d))

-- the block's messages are those of the one request that it is busy with, and a hart has not both a Put and a request out
pub record OneRequest (n : ℕ) (s : One) : Type 0 where
  pub fwd : (h : ℕ) (f : Fwd) → h < n → (s.hart h).fwd ≡ Some f → (g : LineState) × (s.busy ≡ Some (f.requester, g))
  pub ack : (h r : ℕ) (d : Option Block) → h < n → (s.hart h).ack ≡ Some (r, d) → (g : LineState) × (s.busy ≡ Some (r, g))
  pub nack : (h r : ℕ) (x : Option Stamp) → h < n → (s.hart h).nack ≡ Some (r, x) → (g : LineState) × (s.busy ≡ Some (r, g))
  pub grant : (r : ℕ) (x : Granted) → r < n → (s.hart r).grant ≡ Some x → (g : LineState) × (s.busy ≡ Some (r, g))
  pub done : (r : ℕ) (x : Bool × Option Block) → r < n → (s.hart r).done ≡ Some x → (g : LineState) × (s.busy ≡ Some (r, g))
  pub put : (h : ℕ) (w : Wait) → h < n → (s.hart h).wait ≡ Some w → (s.hart h).put ≡ None
  pub get : (h : ℕ) (g : LineState) (x : Kind × Option Stamp) → h < n → (s.hart h).get ≡ Some x → s.busy ≡ Some (h, g) → (s.hart h).done ≢ None
  pub owner : (h : ℕ) (x : Kind × Option Stamp) → h < n → (s.hart h).get ≡ Some x → s.busy ≡ None → s.owner ≢ Owned h

-- a message comes to a hart that expects it
pub record Expected (n : ℕ) (s : One) : Type 0 where
  pub grant : (h : ℕ) (x : Granted) → h < n → (s.hart h).grant ≡ Some x → (w : Wait) × ((s.hart h).wait ≡ Some w) × (w.grant ≡ None)
  pub ack : (h r : ℕ) (d : Option Block) → h < n → (s.hart h).ack ≡ Some (r, d) → (w : Wait) × ((s.hart r).wait ≡ Some w) × (w.from h ≡ false)
  pub nack : (h r : ℕ) (x : Option Stamp) → h < n → (s.hart h).nack ≡ Some (r, x) → (w : Wait) × ((s.hart r).wait ≡ Some w) × (w.from h ≡ false)
  pub put_ack : (h : ℕ) → h < n → (s.hart h).put_ack ≡ true → ((s.hart h).put ≢ None) × ((s.hart h).puts ≡ None)
  pub puts : (h : ℕ) (x : Block × Bool) → h < n → (s.hart h).puts ≡ Some x → (s.hart h).put ≡ Some x

-- each message that a step sends finds its place empty: so no message is lost, and at most one of a sort is out
pub record Free (n : ℕ) (s : One) : Type 0 where
  pub get : (h : ℕ) → h < n → (s.hart h).wait ≡ None → (s.hart h).get ≡ None
  pub puts : (h : ℕ) → h < n → (s.hart h).line ≢ Absent → ((s.hart h).puts ≡ None) × ((s.hart h).put ≡ None)
  pub answer : (h : ℕ) (f : Fwd) → h < n → (s.hart h).fwd ≡ Some f → ((s.hart h).ack ≡ None) × ((s.hart h).nack ≡ None)
  pub put_ack : (h : ℕ) (x : Block × Bool) → h < n → (s.hart h).puts ≡ Some x → (s.hart h).put_ack ≡ false
  pub idle : (h : ℕ) → h < n → s.busy ≡ None → ((s.hart h).grant ≡ None) × ((s.hart h).fwd ≡ None)
  pub granted : (h : ℕ) (x : Granted) → h < n → (s.hart h).grant ≡ Some x → (s.hart h).done ≡ None
  pub acked : (h r : ℕ) (d : Option Block) → h < n → (s.hart h).ack ≡ Some (r, d) → (s.hart r).done ≡ None
  pub nacked : (h r : ℕ) (x : Option Stamp) → h < n → (s.hart h).nack ≡ Some (r, x) → (s.hart r).done ≡ None

-- who owns the block: the requester that was given E or M, from its Done on; else the entry's owner
abbrev pub entry_owner : Owner → Option ℕ
entry_owner Nobody = None
entry_owner (Owned h) = Some h
entry_owner (Sticky h) = None

abbrev pub given_owner : ℕ → LineState → Owner → Option ℕ
given_owner r Shared owner = entry_owner owner
given_owner r Exclusive owner = Some r
given_owner r Modified owner = Some r

abbrev pub owner_by : ℕ → LineState → Option (Bool × Option Block) → Owner → Option ℕ
owner_by r g None owner = entry_owner owner
owner_by r g (Some (false, d)) owner = entry_owner owner
owner_by r g (Some (true, d)) owner = given_owner r g owner

abbrev pub owner_with : Option (ℕ × LineState) → (ℕ → Local) → Owner → Option ℕ
owner_with None hart owner = entry_owner owner
owner_with (Some b) hart owner = owner_by b.0 b.1 (hart b.0).done owner

abbrev pub owner_now : One → Option ℕ
owner_now s = owner_with s.busy s.hart s.owner

-- lines
abbrev pub Named : One → ℕ → Type 0
Named s h = (s.owner ≡ Owned h) ⊎ ((s.owner ≡ Sticky h) ⊎ ((s.sharers h ≡ true) ⊎ ((g : LineState) × IsGranted s h g)))

-- cur is the value in place
pub record Lines (n : ℕ) (s : One) (cur : Block) : Type 0 where
  pub only : (h j : ℕ) → h < n → j < n → j ≢ h → enough Write (s.hart h).line ≡ true → (s.hart j).line ≡ Absent
  pub owner : (h : ℕ) → h < n → enough Write (s.hart h).line ≡ true → owner_now s ≡ Some h
  pub named : (h : ℕ) → h < n → (s.hart h).line ≢ Absent → Named s h
  pub sticky : (h q : ℕ) → h < n → s.owner ≡ Sticky q → (s.hart h).line ≢ Absent → (g : LineState) × IsGranted s h g
  pub value : (h : ℕ) (x : LineState) (d : Block) (m : Marks) → h < n → (s.hart h).line ≡ Has x d m → d ≡ cur

-- what a hart has let go of that acknowledged a request which is given this
abbrev pub GaveUp : LineState → Local → Type 0
GaveUp Shared l = (enough Write l.line ≡ false) × (l.own.in_w ≡ false)
GaveUp Exclusive l = (l.line ≡ Absent) × (l.own.in_r ≡ false) × (l.own.in_w ≡ false)
GaveUp Modified l = (l.line ≡ Absent) × (l.own.in_r ≡ false) × (l.own.in_w ≡ false)

-- a hart whose acknowledgement is in flight or kept, where none has refused; and, while a Done ok is in flight, every other hart
pub record Acknowledged (n : ℕ) (s : One) : Type 0 where
  pub sent : (h r : ℕ) (d : Option Block) (g : LineState) → h < n → (s.hart h).ack ≡ Some (r, d) → s.busy ≡ Some (r, g) → GaveUp g (s.hart h)
  pub kept : (h r : ℕ) (g : LineState) (w : Wait) → h < n → r < n → h ≢ r → s.busy ≡ Some (r, g) → (s.hart r).wait ≡ Some w → w.from h ≡ true → w.refused ≡ false → GaveUp g (s.hart h)
  pub ended : (h r : ℕ) (g : LineState) (d : Option Block) → h < n → r < n → h ≢ r → s.busy ≡ Some (r, g) → (s.hart r).done ≡ Some (true, d) → GaveUp g (s.hart h)

-- sets
abbrev pub ReadMarked : Copy → Bool → Type 0
ReadMarked Absent overflow = overflow ≡ true
ReadMarked (Has s d m) overflow = (m.read || m.overflowed) ≡ true

abbrev pub WriteMarked : Copy → Bool → Type 0
WriteMarked Absent overflow = overflow ≡ true
WriteMarked (Has Shared d m) overflow = ⊥
WriteMarked (Has Exclusive d m) overflow = ⊥
WriteMarked (Has Modified d m) overflow = (m.written || m.overflowed) ≡ true

pub record Sets (n : ℕ) (s : One) : Type 0 where
  pub reads : (h : ℕ) → h < n → (s.hart h).own.in_r ≡ true → ReadMarked (s.hart h).line (s.hart h).own.overflow × Named s h
  pub stores : (h : ℕ) → h < n → (s.hart h).own.in_w ≡ true → WriteMarked (s.hart h).line (s.hart h).own.overflow × ((s.owner ≡ Owned h) ⊎ ((s.owner ≡ Sticky h) ⊎ (owner_now s ≡ Some h)))

-- the value in place, and the flat machine
abbrev pub seen : One → ℕ → Block
seen s h = lay (s.hart h).own.writes s.flat

-- the image in the oldest record, or v
abbrev pub restored : List Block → Block → Block
restored [] v = v
restored (x ∷ xs) v = restored xs x

-- with the logs of all harts below n rolled back
abbrev pub rolled_back : ℕ → One → Block → Block
rolled_back zero s v = v
rolled_back (suc n) s v = restored (s.hart n).own.images (rolled_back n s v)

-- what a hart sees, if it isn't in the middle of an abort: the value in place if its log has the block
abbrev pub view_by : List Block → Block → Block → Block
view_by [] cur mem = mem
view_by (x ∷ xs) cur mem = cur

pub record Values (n : ℕ) (s : One) (cur : Block) : Type 0 where
  pub peeked : rolled_back n s cur ≡ s.flat
  pub viewed : (h : ℕ) → h < n → (s.hart h).own.tx ≢ Aborting → view_by (s.hart h).own.images cur s.flat ≡ seen s h
  pub written : (h : ℕ) → h < n → (s.hart h).own.tx ≢ Aborting → (s.hart h).own.in_w ≡ true → cur ≡ seen s h
  pub unwritten : ((h : ℕ) → h < n → (s.hart h).own.in_w ≡ false) → cur ≡ s.flat

-- the content of an M or E line
abbrev pub owned_line : Copy → Option Block
owned_line Absent = None
owned_line (Has Shared d m) = None
owned_line (Has Exclusive d m) = Some d
owned_line (Has Modified d m) = Some d

abbrev pub sent_data : Option (ℕ × Option Block) → Option Block
sent_data None = None
sent_data (Some a) = a.1

abbrev pub kept_data : Option Wait → Option Block
kept_data None = None
kept_data (Some w) = w.content

abbrev pub done_data : Option (Bool × Option Block) → Option Block
done_data None = None
done_data (Some d) = d.1

abbrev pub owned_by : One → Option ℕ → Option Block
owned_by s None = None
owned_by s (Some o) = owned_line (s.hart o).line

abbrev pub put_by : One → Option ℕ → Option Block
put_by s None = None
put_by s (Some o) = put_data (s.hart o).put

-- where the value in place is found: in the owner's line, in an Ack in flight or kept, in a Done in flight; and where it is in none
-- of these, in the owner's Put or else in memory
pub record Located (n : ℕ) (s : One) (cur : Block) : Type 0 where
  pub owner_in : (o : ℕ) → owner_now s ≡ Some o → o < n
  pub line : Fits (owned_by s (owner_now s)) cur
  pub sent : (h : ℕ) → h < n → Fits (sent_data (s.hart h).ack) cur
  pub kept : (h : ℕ) → h < n → Fits (kept_data (s.hart h).wait) cur
  pub done : (h : ℕ) → h < n → Fits (done_data (s.hart h).done) cur
  pub left : owned_by s (owner_now s) ≡ None → ((h : ℕ) → h < n → sent_data (s.hart h).ack ≡ None) → ((h : ℕ) → h < n → kept_data (s.hart h).wait ≡ None) → ((h : ℕ) → h < n → done_data (s.hart h).done ≡ None) → value_of (put_by s (owner_now s)) s.memory ≡ cur

-- a load or a store that retires is allowed, and finds what the flat machine sees
pub record Accesses (n : ℕ) (s : One) : Type 0 where
  pub load : (h j : ℕ) → h < n → j < n → j ≢ h → enough Read (s.hart h).line ≡ true → (s.hart j).own.in_w ≡ false
  pub store : (h j : ℕ) → h < n → j < n → j ≢ h → enough Write (s.hart h).line ≡ true → ((s.hart j).own.in_r ≡ false) × ((s.hart j).own.in_w ≡ false)
  pub sees : (h : ℕ) (x : LineState) (d : Block) (m : Marks) → h < n → (s.hart h).own.tx ≢ Aborting → (s.hart h).line ≡ Has x d m → d ≡ seen s h

-- an undo's request is told to nobody and never refused; a refusal and an abort by conflict have their reasons
abbrev pub Reason : Fwd → Own → Type 0
Reason f o = (o.in_w ≡ true) ⊎ (((f.kind ≡ Write) × (o.in_r ≡ true)) ⊎ (o.spilled ≡ true))

pub record Reasons (n : ℕ) (s : One) : Type 0 where
  pub undo : (h j : ℕ) (f : Fwd) → h < n → j < n → (s.hart h).own.tx ≡ Aborting → (s.hart h).wait ≢ None → (s.hart j).fwd ≡ Some f → f.requester ≢ h
  pub refused : (h : ℕ) (w : Wait) → h < n → (s.hart h).own.tx ≡ Aborting → (s.hart h).wait ≡ Some w → w.refused ≡ false
  pub early : (h : ℕ) (w : Wait) → h < n → (s.hart h).wait ≡ Some w → w.early ≡ true → (s.hart h).own.noted ≡ true
  pub outside : (h : ℕ) → h < n → (s.hart h).own.tx ≡ Outside → ((s.hart h).own.flag ≡ false) × ((s.hart h).own.overflow ≡ false) × ((s.hart h).own.in_r ≡ false) × ((s.hart h).own.in_w ≡ false)
  pub refuser : (h : ℕ) (k : Kind) → h < n → refuses (s.hart h).line (s.hart h).own.overflow k ≡ true → (s.hart h).own.tx ≢ Outside
  pub marks : (h : ℕ) (x : LineState) (d : Block) (m : Marks) → h < n → (s.hart h).line ≡ Has x d m → is_marked m ≡ true → (s.hart h).own.tx ≢ Outside
  pub refusal : (h : ℕ) (f : Fwd) → h < n → (s.hart h).fwd ≡ Some f → refuses (s.hart h).line (s.hart h).own.overflow f.kind ≡ true → ((s.hart f.requester).own.access ≡ Some f.kind) × ((s.hart f.requester).own.tx ≢ Aborting) × Reason f (s.hart h).own
  pub cycle : (h : ℕ) → h < n → (s.hart h).own.flag ≡ true → (s.hart h).own.refused_earlier ≡ true
  pub conflict : (h : ℕ) → h < n → (s.hart h).own.conflict ≡ true → ((s.hart h).own.tx ≡ Aborting) × ((s.hart h).own.refused_earlier ≡ true) × ((s.hart h).own.noted ≡ true)

-- the requester that a Forward speaks of is another hart, its stamp is the Forward's, and it waits
pub record Asked (n : ℕ) (s : One) (h : ℕ) (f : Fwd) : Type 0 where
  pub apart : h ≢ f.requester
  pub within : f.requester < n
  pub stamp : f.stamp ≡ (s.hart f.requester).own.stamp
  pub waits : (w : Wait) × ((s.hart f.requester).wait ≡ Some w)

-- who is refused isn't being aborted, and knows of it if an earlier one refused
pub record Denied (s : One) (h r : ℕ) (y : Option Stamp) : Type 0 where
  pub apart : h ≢ r
  pub ran : (s.hart r).own.tx ≢ Aborting
  pub noted : sooner y (s.hart r).own.stamp ≡ true → (s.hart r).own.noted ≡ true

-- what a message tells of the requester; a Grant gives what the entry has noted
pub record Askers (n : ℕ) (s : One) : Type 0 where
  pub grant : (h : ℕ) (x : Granted) → h < n → (s.hart h).grant ≡ Some x → s.busy ≡ Some (h, x.give)
  pub fwd : (h : ℕ) (f : Fwd) → h < n → (s.hart h).fwd ≡ Some f → Asked n s h f
  pub ack : (h r : ℕ) (d : Option Block) → h < n → (s.hart h).ack ≡ Some (r, d) → h ≢ r
  pub nack : (h r : ℕ) (y : Option Stamp) → h < n → (s.hart h).nack ≡ Some (r, y) → Denied s h r y

-- all of it, with the value in place
pub record Known (n : ℕ) (s : One) : Type 0 where
  pub cur : Block
  pub busy_in : (q : ℕ × LineState) → s.busy ≡ Some q → q.0 < n
  pub request : OneRequest n s
  pub expected : Expected n s
  pub askers : Askers n s
  pub free : Free n s
  pub lines : Lines n s cur
  pub acknowledged : Acknowledged n s
  pub sets : Sets n s
  pub values : Values n s cur
  pub located : Located n s cur
  pub accesses : Accesses n s
  pub reasons : Reasons n s
