-- The rest of the invariant: requests, sets and logs, and all of it together.
use Rattle.std.proofs.Common.{◌≡◌, ◌≢◌, ◌<◌, ℕ, List, [], ◌∷◌, Bool, true, false, Option, None, Some, eqb}
use Rattle.std.specs.Prelude.{◌||◌}
use Rattle.words.specs.declared.stamp.Stamp.{Stamp}
use Rattle.words.specs.declared.message.Kind.{Kind}
use Rattle.words.specs.declared.message.Kind.TheVariants.{Read, Write}
use Rattle.words.specs.declared.message.LineState.{LineState}
use Rattle.words.specs.declared.message.LineState.TheVariants.{Shared, Exclusive, Modified}
use Rattle.protocol.specs.Messages.{Block}
use Rattle.protocol.specs.Directory.{Owner, Nobody, Owned, Sticky}
use Rattle.isolation.proofs.OneBlock.Model.State.{Copy, Absent, Has, Outside, Running, Aborting, Own, Local, One, lay}
use Rattle.isolation.proofs.OneBlock.Model.Core.{Due}
use Rattle.isolation.proofs.OneBlock.Model.Directory.{Rights, Owns, Shares, Sticks, Nothing, standing}
use Rattle.isolation.proofs.OneBlock.Invariant.Roles.{Ask, Role, Aside, Told, Acking, Nacking, Answered, Refused, Asks, Ends, Fails, Keep, Keeps, Putting, Put_over, Ghost, local_of, line_of, rights, settled}
use Rattle.isolation.proofs.OneBlock.Invariant.Parts.{LineOk, PutOk, Fits, Ctx, Part}

-- a request that is out, beside the line
abbrev pub WantOk : Kind → Keep → Type 0
WantOk k (Keeps Absent) = Unit {0}
WantOk Write (Keeps (Has Shared d m)) = Unit {0}
WantOk Write (Keeps (Has Exclusive d m)) = ⊥
WantOk Write (Keeps (Has Modified d m)) = ⊥
WantOk Read (Keeps (Has s d m)) = ⊥
WantOk k (Putting d m) = ⊥
WantOk k (Put_over d m) = ⊥

abbrev pub WantsGet : Option (Kind × Option Stamp) → Keep → Type 0
WantsGet None keep = Unit {0}
WantsGet (Some q) keep = WantOk q.0 keep

abbrev pub Wants : Role → Option (Kind × Option Stamp) → Keep → Type 0
Wants (Asks a) w k = (w ≡ None) × WantOk a.kind k
Wants Aside w k = WantsGet w k
Wants (Told q j s) w k = WantsGet w k
Wants (Acking q j d) w k = WantsGet w k
Wants (Nacking q s) w k = WantsGet w k
Wants (Answered j) w k = WantsGet w k
Wants Refused w k = WantsGet w k
Wants (Ends g d) w k = WantsGet w k
Wants Fails w k = WantsGet w k

-- why it is out
abbrev pub WhyGet : Option (Kind × Option Stamp) → Own → Type 0
WhyGet None o = Unit {0}
WhyGet (Some q) o = (o.stamp ≡ q.1) × Due o.tx q.0 o.access o.images

abbrev pub WhyAsk : Ask → Own → Type 0
WhyAsk a o = (o.stamp ≡ a.stamp) × (o.noted ≡ a.noted) × (a.early ≡ true → a.noted ≡ true) × Due o.tx a.kind o.access o.images × (a.nay ≡ true → o.tx ≢ Aborting)

abbrev pub Why : Role → Option (Kind × Option Stamp) → Own → Type 0
Why (Asks a) w o = WhyAsk a o
Why Aside w o = WhyGet w o
Why (Told q j s) w o = WhyGet w o
Why (Acking q j d) w o = WhyGet w o
Why (Nacking q s) w o = WhyGet w o
Why (Answered j) w o = WhyGet w o
Why Refused w o = WhyGet w o
Why (Ends g d) w o = WhyGet w o
Why Fails w o = WhyGet w o

abbrev pub has_r : Copy → Bool
has_r Absent = false
has_r (Has s d m) = m.read

abbrev pub has_w : Copy → Bool
has_w Absent = false
has_w (Has s d m) = m.written

abbrev pub has_x : Copy → Bool
has_x Absent = false
has_x (Has s d m) = m.overflowed

-- a block that was read in the transaction is covered
abbrev pub CoversRead : Rights → Copy → Bool → Type 0
CoversRead Nothing x overflow = ⊥
CoversRead Owns Absent overflow = overflow ≡ true
CoversRead Owns (Has s d m) overflow = (m.read || m.overflowed) ≡ true
CoversRead Shares Absent overflow = overflow ≡ true
CoversRead Shares (Has s d m) overflow = (m.read || m.overflowed) ≡ true
CoversRead Sticks Absent overflow = overflow ≡ true
CoversRead Sticks (Has s d m) overflow = (m.read || m.overflowed) ≡ true

-- and one that was written
abbrev pub CoversWrite : Rights → Copy → Bool → Type 0
CoversWrite Nothing x overflow = ⊥
CoversWrite Shares x overflow = ⊥
CoversWrite Owns Absent overflow = overflow ≡ true
CoversWrite Owns (Has Shared d m) overflow = ⊥
CoversWrite Owns (Has Exclusive d m) overflow = ⊥
CoversWrite Owns (Has Modified d m) overflow = (m.written || m.overflowed) ≡ true
CoversWrite Sticks Absent overflow = overflow ≡ true
CoversWrite Sticks (Has s d m) overflow = ⊥

pub record Cover (rt : Rights) (x : Copy) (o : Own) : Type 0 where
  pub reads : o.in_r ≡ true → CoversRead rt x o.overflow
  pub stores : o.in_w ≡ true → CoversWrite rt x o.overflow
  pub r_mark : has_r x ≡ true → o.in_r ≡ true
  pub w_mark : has_w x ≡ true → o.in_w ≡ true
  pub x_mark : has_x x ≡ true → o.overflow ≡ true

abbrev pub is_at : Option ℕ → ℕ → Bool
is_at None h = false
is_at (Some o) h = eqb h o

abbrev pub oldest : List Block → Block → Block
oldest [] v = v
oldest (x ∷ xs) v = oldest xs x

abbrev pub IsLogged : List Block → Type 0
IsLogged [] = ⊥
IsLogged (x ∷ xs) = Unit {0}

pub record Logs (cur mem : Block) (writer : Option ℕ) (h : ℕ) (o : Own) : Type 0 where
  pub writer_is : o.in_w ≡ is_at writer h
  pub image : o.in_w ≡ true → oldest o.images cur ≡ mem
  pub none : o.in_w ≡ false → (o.images ≡ []) × (o.writes ≡ None)
  pub logged : o.in_w ≡ true → o.tx ≡ Running → IsLogged o.images
  pub view : o.in_w ≡ true → o.tx ≡ Running → cur ≡ lay o.writes mem

-- what a hart's own fields say of each other
pub record Sound (o : Own) : Type 0 where
  pub outside : o.tx ≡ Outside → (o.overflow ≡ false) × (o.flag ≡ false) × (o.stamp ≡ None) × (o.in_r ≡ false) × (o.in_w ≡ false)
  pub spill : o.overflow ≡ true → o.spilled ≡ true
  pub flagged : o.flag ≡ true → o.refused_earlier ≡ true
  pub clash : o.conflict ≡ true → (o.tx ≡ Aborting) × (o.refused_earlier ≡ true) × (o.noted ≡ true)

-- an unmarked Put is of no set's block
abbrev pub PutMarked : Keep → Own → Type 0
PutMarked (Keeps x) o = Unit {0}
PutMarked (Putting d true) o = Unit {0}
PutMarked (Putting d false) o = (o.in_r ≡ false) × (o.in_w ≡ false)
PutMarked (Put_over d m) o = Unit {0}

-- an owner leaves no sharers
abbrev pub Lone : Owner → Bool → Type 0
Lone Nobody shares = Unit {0}
Lone (Owned o) shares = shares ≡ false
Lone (Sticky o) shares = shares ≡ false

pub record Each (c : Ctx) (shares : Bool) (h : ℕ) (l : Local) (g : Ghost) : Type 0 where
  pub is : l ≡ local_of g l.own
  pub line : LineOk (rights g.role (standing c.owner shares h)) c.cur g.keep
  pub put : PutOk (settled c.asker g.role (standing c.owner shares h)) c.cur g.keep
  pub part : Part c h (standing c.owner shares h) g.role
  pub want : Wants g.role g.want g.keep
  pub why : Why g.role g.want l.own
  pub cover : Cover (rights g.role (standing c.owner shares h)) (line_of g.keep) l.own
  pub logs : Logs c.cur c.mem c.writer h l.own
  pub sound : Sound l.own
  pub marked : PutMarked g.keep l.own

-- the block is busy with the asker's request
abbrev pub Agree : Option (ℕ × LineState) → Role → Type 0
Agree None asker = asker ≡ Aside
Agree (Some b) (Asks a) = a.grant.give ≡ b.1
Agree (Some b) (Ends g d) = g ≡ b.1
Agree (Some b) Fails = Unit {0}
Agree (Some b) Aside = ⊥
Agree (Some b) (Told q k s) = ⊥
Agree (Some b) (Acking q k d) = ⊥
Agree (Some b) (Nacking q s) = ⊥
Agree (Some b) (Answered k) = ⊥
Agree (Some b) Refused = ⊥

-- the requester has had answers only of harts that its grant expects, and these are others of the harts that there are
abbrev pub Expects : ℕ → Option (ℕ × LineState) → Role → Type 0
Expects n None asker = Unit {0}
Expects n (Some b) (Asks a) = ((h : ℕ) → a.grant.expect h ≡ true → (h < n) × (h ≢ b.0)) × ((h : ℕ) → a.from h ≡ true → a.grant.expect h ≡ true)
Expects n (Some b) (Ends g d) = Unit {0}
Expects n (Some b) Fails = Unit {0}
Expects n (Some b) Aside = Unit {0}
Expects n (Some b) (Told q k s) = Unit {0}
Expects n (Some b) (Acking q k d) = Unit {0}
Expects n (Some b) (Nacking q s) = Unit {0}
Expects n (Some b) (Answered k) = Unit {0}
Expects n (Some b) Refused = Unit {0}

abbrev pub MemoryIs : Owner → Block → Block → Type 0
MemoryIs (Owned o) memory cur = Unit {0}
MemoryIs Nobody memory cur = memory ≡ cur
MemoryIs (Sticky o) memory cur = memory ≡ cur

abbrev pub EndIs : LineState → Owner → Block → Block → Option Block → Type 0
EndIs Shared (Owned o) memory cur d = d ≡ Some cur
EndIs Shared Nobody memory cur d = (memory ≡ cur) × Fits d cur
EndIs Shared (Sticky o) memory cur d = (memory ≡ cur) × Fits d cur
EndIs Exclusive owner memory cur d = d ≡ None
EndIs Modified owner memory cur d = d ≡ None

-- what the entry and the requester's part say of the value in place
abbrev pub Center : Owner → Block → Block → Role → Type 0
Center owner memory cur Aside = MemoryIs owner memory cur
Center owner memory cur (Asks a) = (a.grant.content ≡ memory) × MemoryIs owner memory cur × Fits a.kept cur
Center owner memory cur (Ends g d) = EndIs g owner memory cur d
Center owner memory cur Fails = MemoryIs owner memory cur
Center owner memory cur (Told q k s) = ⊥
Center owner memory cur (Acking q k d) = ⊥
Center owner memory cur (Nacking q s) = ⊥
Center owner memory cur (Answered k) = ⊥
Center owner memory cur Refused = ⊥

abbrev pub ctx : Option (ℕ × LineState) → Role → Block → Option ℕ → One → Ctx
ctx busy asker cur writer s = record { cur = cur; mem = s.flat; memory = s.memory; owner = s.owner; busy = busy; asker = asker; writer = writer }

-- the invariant, of n harts. busy is the entry's, asker the part of its requester
pub record Inv (n : ℕ) (busy : Option (ℕ × LineState)) (asker : Role) (cur : Block) (writer : Option ℕ) (s : One) (g : ℕ → Ghost) : Type 0 where
  pub busy_is : s.busy ≡ busy
  pub owner_in : (o : ℕ) → s.owner ≡ Owned o → o < n
  pub busy_in : (b : ℕ × LineState) → busy ≡ Some b → b.0 < n
  pub writer_in : (w : ℕ) → writer ≡ Some w → w < n
  pub agree : Agree busy asker
  pub expects : Expects n busy asker
  pub center : Center s.owner s.memory cur asker
  pub flat : writer ≡ None → cur ≡ s.flat
  pub lone : (h : ℕ) → Lone s.owner (s.sharers h)
  pub within : (h : ℕ) → standing s.owner (s.sharers h) h ≢ Nothing → h < n
  pub each : (h : ℕ) → h < n → Each (ctx busy asker cur writer s) (s.sharers h) h (s.hart h) (g h)

-- there are ghosts with which it holds
pub record Good (n : ℕ) (s : One) : Type 0 where
  pub busy : Option (ℕ × LineState)
  pub asker : Role
  pub cur : Block
  pub writer : Option ℕ
  pub ghost : ℕ → Ghost
  pub inv : Inv n busy asker cur writer s ghost
