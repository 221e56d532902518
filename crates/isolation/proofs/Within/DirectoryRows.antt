-- The directory sends messages about the block that it got one about.
use Rattle.std.proofs.Common.{ℕ, zero, suc, Bool, true, false, [], ◌∷◌, Option, None, Some, cond}
use Rattle.std.specs.Prelude.{All, IfSome, ◌==◌}
use Rattle.std.proofs.lemmas.List.Elements.{All-nil, All-cons, All-append}
use Rattle.words.specs.declared.stamp.Stamp.{Stamp}
use Rattle.words.specs.declared.message.Kind.{Kind}
use Rattle.flat.specs.State.{Setting}
use Rattle.protocol.specs.Messages.{Block, Message, Get, Put, Done, Grant, Forward, PutAck, Ack, Nack}
use Rattle.protocol.specs.Directory.{Busy, DirEntry, Served, expected_now, granted_now, forwards, is_owned_by, done_of, unless_busy, directory_row}
use Rattle.isolation.specs.Memory.{LiesInMemory}
use Rattle.isolation.proofs.Within.Harts.{MessageLies}

module _ (s : Setting) where
  -- what is sent is about blocks in memory
  abbrev pub ServedIsWithin : Served → Type 0
  ServedIsWithin t = All (MessageLies s) t.sent

  either : (z : Bool) (t u : Served) → ServedIsWithin t → ServedIsWithin u → ServedIsWithin (cond z t u)
  either true t u a b = a
  either false t u a b = b

  one : (m : Message) → MessageLies s m → All (MessageLies s) (m ∷ [])
  one m lies = All-cons (MessageLies s) m [] lies (All-nil (MessageLies s))

  forwards_lie : (n : ℕ) (expect : ℕ → Bool) (b : ℕ) (kind : Kind) (r : ℕ) (stamp : Option Stamp) → LiesInMemory s b
      → All (MessageLies s) (forwards n expect b kind r stamp)
  forwards_lie zero expect b kind r stamp lies = All-nil (MessageLies s)
  forwards_lie (suc n) expect b kind r stamp lies =
      All-append (MessageLies s) (forwards n expect b kind r stamp) _ (forwards_lie n expect b kind r stamp lies) (by_expect (expect n))
    where
      by_expect : (z : Bool) → All (MessageLies s) (cond z (Forward n b kind r stamp ∷ []) [])
      by_expect true = one (Forward n b kind r stamp) lies
      by_expect false = All-nil (MessageLies s)

  unless : (o : Option Busy) (t : Served) → ServedIsWithin t → IfSome (unless_busy o t) ServedIsWithin
  unless None t k = k
  unless (Some q) t k = tt

  done_within : (o : Option Busy) (r : ℕ) (ok : Bool) (content : Option Block) (e : DirEntry) (memory : Block)
      → ServedIsWithin (done_of o r ok content e memory)
  done_within None r ok content e memory = All-nil (MessageLies s)
  done_within (Some q) r ok content e memory = either (q.requester == r) _ _
      (either ok _ _ (All-nil (MessageLies s)) (All-nil (MessageLies s)))
      (All-nil (MessageLies s))

  pub directory_within : (n : ℕ) (m : Message) (e : DirEntry) (memory : Block) → MessageLies s m
      → IfSome (directory_row n m e memory) ServedIsWithin
  directory_within n (Get r b kind stamp) e memory lies =
      let told = forwards_lie n (expected_now r kind e) b kind r stamp lies in
      unless e.busy _ (All-cons (MessageLies s) (Grant r b (granted_now n r kind e memory)) _ lies told)
  directory_within n (Put r b content marked) e memory lies =
      unless e.busy _ (either (is_owned_by r e.owner) _ _ (one (PutAck r b) lies) (one (PutAck r b) lies))
  directory_within n (Done r b ok content) e memory lies = done_within e.busy r ok content e memory
  directory_within n (Grant to b granted) e memory lies = All-nil (MessageLies s)
  directory_within n (Forward to b kind r stamp) e memory lies = All-nil (MessageLies s)
  directory_within n (PutAck to b) e memory lies = All-nil (MessageLies s)
  directory_within n (Ack j to b content) e memory lies = All-nil (MessageLies s)
  directory_within n (Nack j to b stamp) e memory lies = All-nil (MessageLies s)
