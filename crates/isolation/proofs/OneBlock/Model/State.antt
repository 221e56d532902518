-- One block as the protocol sees it: its directory entry, each hart's copy, request and Put, the messages about it, and what the
-- flat machine has of it. A machine's state, looked at from one block, is such a state.
use Rattle.std.proofs.Common.{ℕ, List, Bool, false, Option, None, Some, cond, ◌==◌}
use Rattle.words.specs.declared.stamp.Stamp.{Stamp}
use Rattle.words.specs.declared.message.Kind.{Kind}
use Rattle.words.specs.declared.message.LineState.{LineState}
use Rattle.words.specs.Stamps.{earlier}
use Rattle.protocol.specs.Messages.{Block, Granted}
use Rattle.words.specs.declared.marks.Marks.{Marks}
use Rattle.protocol.specs.Directory.{Owner}

-- the order of requests, which the invariant never looks into
unfoldable pub sooner : Option Stamp → Option Stamp → Bool
sooner a b = earlier a b

-- what a hart has of the block
pub data Copy : Type 0 where
  Absent : Copy
  Has : (state : LineState) (content : Block) (marks : Marks) → Copy

-- a request that is out, and what was kept of its answers
pub record Wait : Type 0 where
  pub kind : Kind
  pub grant : Option Granted
  pub from : ℕ → Bool
  pub refused : Bool
  pub content : Option Block
  pub early : Bool

pub data Tx : Type 0 where
  Outside : Tx
  Running : Tx
  Aborting : Tx

-- a hart's transaction, as far as the block sees it
pub record Own : Type 0 where
  pub tx : Tx
  pub conflict : Bool  -- it is being aborted by a conflict
  pub overflow : Bool
  pub flag : Bool
  pub stamp : Option Stamp
  pub images : List Block  -- what its log has of the block, the newest first
  -- what the flat machine has
  pub in_r : Bool
  pub in_w : Bool
  pub writes : Option (Block → Block)  -- what its transaction's stores make of the block, if it has written it
  pub access : Option Kind  -- what the instruction at its pc does to the block
  -- what its entries say
  pub spilled : Bool  -- it gave a Spill since its outermost begin
  pub refused_earlier : Bool  -- it refused an earlier one since then
  pub noted : Bool  -- it was refused by an earlier one since it last retired

pub record Fwd : Type 0 where
  pub kind : Kind
  pub requester : ℕ
  pub stamp : Option Stamp

-- what one hart has of the block, and the messages to it or from it
pub record Local : Type 0 where
  pub line : Copy
  pub put : Option (Block × Bool)  -- its Put, until that is over
  pub wait : Option Wait
  pub get : Option (Kind × Option Stamp)  -- in flight: Get
  pub puts : Option (Block × Bool)  -- in flight: Put, its content and whether it is marked
  pub put_ack : Bool  -- in flight: PutAck
  pub grant : Option Granted  -- in flight: Grant
  pub fwd : Option Fwd  -- in flight: Forward
  pub ack : Option (ℕ × Option Block)  -- in flight: Ack, to whom, with what
  pub nack : Option (ℕ × Option Stamp)  -- in flight: Nack
  pub done : Option (Bool × Option Block)  -- in flight: Done, whether ok
  pub own : Own

pub record One : Type 0 where
  pub owner : Owner
  pub sharers : ℕ → Bool
  pub busy : Option (ℕ × LineState)
  pub memory : Block
  pub flat : Block  -- the flat machine's memory
  pub hart : ℕ → Local

-- f with v at i
abbrev pub put_at : {A : Type 0} → ℕ → A → (ℕ → A) → ℕ → A
put_at i v f h = cond (h == i) v (f h)

abbrev pub at_hart : ℕ → Local → One → One
at_hart i l s = record { owner = s.owner; sharers = s.sharers; busy = s.busy; memory = s.memory; flat = s.flat; hart = put_at i l s.hart }

-- a transaction's stores laid over a block
abbrev pub lay : Option (Block → Block) → Block → Block
lay None m = m
lay (Some f) m = f m

abbrev pub fresh_marks : Bool → Marks
fresh_marks overflow = record { read = false; written = false; overflowed = overflow }

abbrev pub value_of : Option Block → Block → Block
value_of None d = d
value_of (Some x) d = x
