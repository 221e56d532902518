-- A machine beside the flat machine, and what both are at one block.
use Rattle.std.proofs.Common.{ℕ, List, [], ◌∷◌, Bool, true, false, Option, None, Some, cond, ◌==◌, ◌/◌, Result, Ok, Err}
use Rattle.std.specs.Option.{option_map}
use Rattle.words.specs.declared.cause.AbortCause.{AbortCause}
use Rattle.words.specs.declared.cause.AbortCause.TheVariants.{Asked, Conflict, LogFull, Trapped}
use Rattle.words.specs.declared.cause.Cause.{Cause}
use Rattle.words.specs.declared.message.Kind.{Kind}
use Rattle.words.specs.declared.message.LineState.{LineState}
use Rattle.words.specs.declared.stamp.Stamp.{Stamp}
use Rattle.table.specs.declared.effect.Effect.{Effect}
use Rattle.table.specs.declared.effect.Act.{Act}
use Rattle.table.specs.declared.effect.Act.TheVariants as act
use Rattle.flat.specs.State.{Setting, FlatHart, Flat, Tx as FlatTx, seen, has_read, has_written}
use Rattle.flat.specs.Causes.{next_of}
use Rattle.flat.specs.Reasons.{Past, History}
use Rattle.protocol.specs.Messages.{Block, Granted, Message, Get, Put, Done, Grant, Forward, PutAck, Ack, Nack}
use Rattle.protocol.specs.Lines.{Line, byte_in, words_at}
use Rattle.protocol.specs.Hart.{Hart, Transaction, Request, PutOut, LogRecord, log_of, stamp_of, overflow_of}
use Rattle.protocol.specs.Core.{kind_of}
use Rattle.protocol.specs.Directory.{Busy}
use Rattle.protocol.specs.Machine.{Machine}
use Rattle.isolation.proofs.OneBlock.Model.State.{Copy, Absent, Has, Wait, Tx, Outside, Running, Aborting, Own, Fwd, Local, One}
use Rattle.isolation.proofs.Machine.Slots.{slot, Mail}

-- a machine, the flat state that belongs to it, what the entries so far say, and the messages in flight by slot
pub record World : Type 0 where
  pub machine : Machine
  pub flat : Flat
  pub history : History
  pub mail : Mail

-- messages, as one block's state has them

-- a Get
abbrev pub as_get : Option Message → Option (Kind × Option Stamp)
as_get None = None
as_get (Some (Get from block kind stamp)) = Some (kind, stamp)
as_get (Some (Put from block content marked)) = None
as_get (Some (Done from block ok content)) = None
as_get (Some (Grant to block granted)) = None
as_get (Some (Forward to block kind requester stamp)) = None
as_get (Some (PutAck to block)) = None
as_get (Some (Ack from to block content)) = None
as_get (Some (Nack from to block stamp)) = None

-- a Put
abbrev pub as_put : Option Message → Option (Block × Bool)
as_put None = None
as_put (Some (Put from block content marked)) = Some (content, marked)
as_put (Some (Get from block kind stamp)) = None
as_put (Some (Done from block ok content)) = None
as_put (Some (Grant to block granted)) = None
as_put (Some (Forward to block kind requester stamp)) = None
as_put (Some (PutAck to block)) = None
as_put (Some (Ack from to block content)) = None
as_put (Some (Nack from to block stamp)) = None

-- a Done
abbrev pub as_done : Option Message → Option (Bool × Option Block)
as_done None = None
as_done (Some (Done from block ok content)) = Some (ok, content)
as_done (Some (Get from block kind stamp)) = None
as_done (Some (Put from block content marked)) = None
as_done (Some (Grant to block granted)) = None
as_done (Some (Forward to block kind requester stamp)) = None
as_done (Some (PutAck to block)) = None
as_done (Some (Ack from to block content)) = None
as_done (Some (Nack from to block stamp)) = None

-- a Grant
abbrev pub as_grant : Option Message → Option Granted
as_grant None = None
as_grant (Some (Grant to block granted)) = Some granted
as_grant (Some (Get from block kind stamp)) = None
as_grant (Some (Put from block content marked)) = None
as_grant (Some (Done from block ok content)) = None
as_grant (Some (Forward to block kind requester stamp)) = None
as_grant (Some (PutAck to block)) = None
as_grant (Some (Ack from to block content)) = None
as_grant (Some (Nack from to block stamp)) = None

-- a Forward
abbrev pub as_forward : Option Message → Option Fwd
as_forward None = None
as_forward (Some (Forward to block kind requester stamp)) = Some (record { kind = kind; requester = requester; stamp = stamp })
as_forward (Some (Get from block kind stamp)) = None
as_forward (Some (Put from block content marked)) = None
as_forward (Some (Done from block ok content)) = None
as_forward (Some (Grant to block granted)) = None
as_forward (Some (PutAck to block)) = None
as_forward (Some (Ack from to block content)) = None
as_forward (Some (Nack from to block stamp)) = None

-- a PutAck
abbrev pub as_put_ack : Option Message → Bool
as_put_ack None = false
as_put_ack (Some (PutAck to block)) = true
as_put_ack (Some (Get from block kind stamp)) = false
as_put_ack (Some (Put from block content marked)) = false
as_put_ack (Some (Done from block ok content)) = false
as_put_ack (Some (Grant to block granted)) = false
as_put_ack (Some (Forward to block kind requester stamp)) = false
as_put_ack (Some (Ack from to block content)) = false
as_put_ack (Some (Nack from to block stamp)) = false

-- an Ack
abbrev pub as_ack : Option Message → Option (ℕ × Option Block)
as_ack None = None
as_ack (Some (Ack from to block content)) = Some (to, content)
as_ack (Some (Get from block kind stamp)) = None
as_ack (Some (Put from block content marked)) = None
as_ack (Some (Done from block ok content)) = None
as_ack (Some (Grant to block granted)) = None
as_ack (Some (Forward to block kind requester stamp)) = None
as_ack (Some (PutAck to block)) = None
as_ack (Some (Nack from to block stamp)) = None

-- a Nack
abbrev pub as_nack : Option Message → Option (ℕ × Option Stamp)
as_nack None = None
as_nack (Some (Nack from to block stamp)) = Some (to, stamp)
as_nack (Some (Get from block kind stamp)) = None
as_nack (Some (Put from block content marked)) = None
as_nack (Some (Done from block ok content)) = None
as_nack (Some (Grant to block granted)) = None
as_nack (Some (Forward to block kind requester stamp)) = None
as_nack (Some (PutAck to block)) = None
as_nack (Some (Ack from to block content)) = None

-- what a hart has of block b

-- its line
abbrev pub copy_of : Option Line → Copy
copy_of None = Absent
copy_of (Some l) = Has l.state l.content l.marks

-- its request
abbrev pub wait_of : Request → Wait
wait_of r = record { kind = r.kind; grant = r.grant; from = r.answered; refused = r.refused; content = r.content; early = r.earlier }

-- if that is about the block
abbrev pub wait_at : ℕ → Option Request → Option Wait
wait_at b None = None
wait_at b (Some r) = cond (r.block == b) (Some (wait_of r)) None

-- its Put, if that is about the block
abbrev pub put_out_at : ℕ → Option PutOut → Option (Block × Bool)
put_out_at b None = None
put_out_at b (Some p) = cond (p.block == b) (Some (p.content, p.marked)) None

abbrev pub tx_by_cause : Option AbortCause → Tx
tx_by_cause None = Running
tx_by_cause (Some c) = Aborting

-- its transaction
abbrev pub tx_at : Option Transaction → Tx
tx_at None = Outside
tx_at (Some t) = tx_by_cause t.aborting

-- whether a conflict is the cause
abbrev pub is_conflict : Option AbortCause → Bool
is_conflict None = false
is_conflict (Some Asked) = false
is_conflict (Some Conflict) = true
is_conflict (Some LogFull) = false
is_conflict (Some (Trapped c p)) = false

abbrev pub conflict_at : Option Transaction → Bool
conflict_at None = false
conflict_at (Some t) = is_conflict t.aborting

-- whether it has refused an earlier one
abbrev pub cycle_of : Option Transaction → Bool
cycle_of None = false
cycle_of (Some t) = t.cycle

-- the records of block b in a log
abbrev pub images_of : ℕ → List LogRecord → List Block
images_of b [] = []
images_of b (r ∷ rest) = cond (r.block == b) (r.before ∷ images_of b rest) (images_of b rest)

-- what a flat transaction's stores make of the block, if it has written it
abbrev pub writes_at : ℕ → Option FlatTx → Option (Block → Block)
writes_at b None = None
writes_at b (Some t) = cond (t.write_set b) (Some (λ k. words_at (seen (Some t) (byte_in k)) b)) None

-- what an act does to the block
abbrev pub act_at : ℕ → Act → Option Kind
act_at b act.Nothing = None
act_at b (act.Memory m) = cond (m.addr / 32 == b) (Some (kind_of m)) None
act_at b (act.Conditional rd m) = cond (m.addr / 32 == b) (Some (kind_of m)) None
act_at b (act.Begin p) = None
act_at b act.Commit = None
act_at b act.Abort = None
act_at b act.Call = None
act_at b act.Break = None

-- so it is for what it does next, if it can
abbrev pub access_at : ℕ → Result Effect Cause → Option Kind
access_at b (Ok e) = act_at b e.act
access_at b (Err c) = None

-- a hart's own fields
abbrev pub own_at : Setting → ℕ → Hart → FlatHart → Past → Own
own_at s b h f p = record {
  tx = tx_at h.tx;
  conflict = conflict_at h.tx;
  overflow = overflow_of h.tx;
  flag = cycle_of h.tx;
  stamp = stamp_of h.tx;
  images = images_of b (log_of h.tx);
  in_r = has_read f.tx b;
  in_w = has_written f.tx b;
  writes = writes_at b f.tx;
  access = access_at b (next_of s f);
  spilled = p.has_spilled;
  refused_earlier = p.refused_earlier;
  noted = p.was_refused;
}

-- hart j at block b: what it has itself, what flat machine and entries have of it, and the messages that are its own
abbrev pub local_at : Setting → ℕ → ℕ → Hart → FlatHart → Past → Mail → Local
local_at s b j h f p mail = record {
  line = copy_of (h.lines b);
  put = put_out_at b h.put;
  wait = wait_at b h.request;
  get = as_get (mail (slot 0 b j));
  puts = as_put (mail (slot 1 b j));
  put_ack = as_put_ack (mail (slot 5 b j));
  grant = as_grant (mail (slot 3 b j));
  fwd = as_forward (mail (slot 4 b j));
  ack = as_ack (mail (slot 6 b j));
  nack = as_nack (mail (slot 7 b j));
  done = as_done (mail (slot 2 b j));
  own = own_at s b h f p;
}

-- the request that the block is busy with
abbrev pub busy_of : Busy → ℕ × LineState
busy_of q = (q.requester, q.give)

-- both machines at block b
abbrev pub project : ℕ → World → One
project b x = record {
  owner = (x.machine.entries b).owner;
  sharers = (x.machine.entries b).sharers;
  busy = option_map busy_of (x.machine.entries b).busy;
  memory = x.machine.memory b;
  flat = words_at x.flat.mem b;
  hart = λ j. local_at x.machine.setting b j (x.machine.harts j) (x.flat.hart j) (x.history.past j) x.mail;
}
