-- What one block's state tells of the machine: of a hart's request, Put and line, of the entry, and of the messages in flight.
use Rattle.std.proofs.Common.{◌≡◌, ◌≢◌, ◌<◌, ℕ, Bool, true, false, Option, None, Some, cond, eqb, refl, ap, ◌∙◌, arith, sym}
use Rattle.std.specs.Prelude.{IsSome, IsSomeAnd}
use Rattle.std.specs.Option.{option_map}
use Rattle.std.proofs.lemmas.Bool.{eqb-true, eq-eqb, ne_eqb}
use Rattle.std.proofs.lemmas.Option.{none-some, same_Some}
use Rattle.words.specs.declared.message.LineState.{LineState}
use Rattle.words.specs.declared.cause.AbortCause.{AbortCause}
use Rattle.protocol.specs.Messages.{Block, Message, Done}
use Rattle.protocol.specs.Lines.{Line}
use Rattle.protocol.specs.Hart.{Hart, Transaction, Request, PutOut}
use Rattle.protocol.specs.Directory.{Busy}
use Rattle.isolation.proofs.OneBlock.Model.State.{Absent, Wait, Aborting}
use Rattle.isolation.proofs.OneBlock.Invariant.Laws.{Known}
use Rattle.isolation.proofs.OneBlock.Facts.Runs.{known}
use Rattle.isolation.specs.Belongs.{IsAborting}
use Rattle.isolation.specs.Facts.{IsInFlight}
use Rattle.isolation.proofs.Machine.Slots.{slot, slot_of}
use Rattle.isolation.proofs.Machine.Sends.{in_slot, in_flight}
use Rattle.isolation.proofs.Machine.World.{World, as_done, copy_of, wait_of, wait_at, put_out_at, tx_by_cause, tx_at, busy_of, project}
use Rattle.isolation.proofs.Machine.Invariant.{Inv}

-- what isn't None is Some
pub has_some : {A : Type 0} (o : Option A) → o ≢ None → (x : A) × (o ≡ Some x)
has_some None n = absurd (n refl)
has_some (Some x) n = (x, refl)

-- all that one block's invariant tells
pub known_at : (x : World) → Inv x → (b : ℕ) → Known x.machine.setting.count (project b x)
known_at x v b = known x.machine.setting.count (project b x) (v.blocks b)

-- Requests and Puts

-- a hart that waits has the request
pub request_of : (b : ℕ) (o : Option Request) (w : Wait) → wait_at b o ≡ Some w → (r : Request) × (o ≡ Some r) × (r.block ≡ b) × (wait_of r ≡ w)
request_of b None w e = absurd (cc)
request_of b (Some r) w e = go (eqb r.block b) refl e
  where
    go : (q : Bool) → eqb r.block b ≡ q → cond q (Some (wait_of r)) None ≡ Some w → (k : Request) × (Some r ≡ Some k) × (k.block ≡ b) × (wait_of k ≡ w)
    go true z f = (r, refl, eqb-true r.block b z, same_Some _ _ f)
    go false z f = absurd (cc)

-- and a hart with a request waits at its block
pub request_at : (b : ℕ) (o : Option Request) (r : Request) → o ≡ Some r → r.block ≡ b → wait_at b o ≡ Some (wait_of r)
request_at b o r e f = ap (wait_at b) e ∙ ap (λ z. cond z (Some (wait_of r)) None) (eq-eqb r.block b f)

-- and at no other
pub request_alone : (o : Option Request) (r : Request) → o ≡ Some r → (c : ℕ) → c ≢ r.block → wait_at c o ≡ None
request_alone o r e c d = ap (wait_at c) e ∙ ap (λ q. cond q (Some (wait_of r)) None) (ne_eqb r.block c (λ z. d (sym z)))

-- a Put that is out at a block is the hart's
pub put_out_of : (b : ℕ) (o : Option PutOut) (x : Block × Bool) → put_out_at b o ≡ Some x → o ≡ Some (record { block = b; content = x.0; marked = x.1 })
put_out_of b None x e = absurd (cc)
put_out_of b (Some p) x e = go (eqb p.block b) refl e
  where
    go : (q : Bool) → eqb p.block b ≡ q → cond q (Some (p.content, p.marked)) None ≡ Some x → Some p ≡ Some (record { block = b; content = x.0; marked = x.1 })
    go true z f = let u = same_Some _ _ f in λ i. Some (record { block = eqb-true p.block b z i; content = (u i).0; marked = (u i).1 })
    go false z f = absurd (cc)

-- a hart whose Put at a block isn't over
pub put_out_there : (b : ℕ) (o : Option PutOut) → put_out_at b o ≢ None → (p : PutOut) × (o ≡ Some p) × (p.block ≡ b)
put_out_there b o n = let k = has_some (put_out_at b o) n in (record { block = b; content = k.0.0; marked = k.0.1 }, put_out_of b o k.0 k.1, refl)

-- where no Put is out, the hart's is about another block
pub put_out_apart : (b : ℕ) (o : Option PutOut) (p : PutOut) → put_out_at b o ≡ None → o ≡ Some p → p.block ≢ b
put_out_apart b o p e f g = none-some _ (sym e ∙ ap (put_out_at b) f ∙ ap (λ z. cond z (Some (p.content, p.marked)) None) (eq-eqb p.block b g))

-- The entry

-- the request that a block is busy with
pub busy_at : (o : Option Busy) (r : ℕ) (g : LineState) → option_map busy_of o ≡ Some (r, g) → o ≡ Some (record { requester = r; give = g })
busy_at None r g e = absurd (cc)
busy_at (Some q) r g e = let u = same_Some _ _ e in λ i. Some (record { requester = (u i).0; give = (u i).1 })

-- Lines

-- no copy is no line
pub no_line : (o : Option Line) → copy_of o ≡ Absent → o ≡ None
no_line None e = refl
no_line (Some l) e = absurd (cc)

-- and a line is a copy
pub a_line : (o : Option Line) (l : Line) → o ≡ Some l → copy_of o ≢ Absent
a_line None l e f = absurd (cc)
a_line (Some k) l e f = absurd (cc)

-- Transactions

-- a hart that is being aborted is so at each block
pub aborting_at : (h : Hart) → IsAborting h → tx_at h.tx ≡ Aborting
aborting_at h a = go h.tx a
  where
    by_cause : (t : Transaction) (c : Option AbortCause) → t.aborting ≡ c → IsSome c → tx_at (Some t) ≡ Aborting
    by_cause t None e s = absurd (cc)
    by_cause t (Some c) e s = ap tx_by_cause e

    go : (o : Option Transaction) → IsSomeAnd o (λ t. IsSome t.aborting) → tx_at o ≡ Aborting
    go None s = absurd s
    go (Some t) s = by_cause t t.aborting refl s

by_cause : (c : Option AbortCause) → tx_by_cause c ≡ Aborting → IsSome c
by_cause None e = absurd (cc)
by_cause (Some c) e = refl

-- and one that is so at a block is being aborted
pub aborting_from : (h : Hart) → tx_at h.tx ≡ Aborting → IsAborting h
aborting_from h e = by_tx h.tx e
  where
    by_tx : (t : Option Transaction) → tx_at t ≡ Aborting → IsAborting (record h { tx = t })
    by_tx None e = absurd (cc)
    by_tx (Some t) e = by_cause t.aborting e

-- Messages

-- what is in a Done's slot is a Done
done_is : (m : Message) (b i : ℕ) (ok : Bool) (content : Option Block) → slot_of m ≡ slot 2 b i → as_done (Some m) ≡ Some (ok, content) → m ≡ Done i b ok content
done_is m b i ok content e f = grind arith

module _ (x : World) (v : Inv x) where
  -- a message in flight is in its slot, and its hart is one that there is
  pub lies : (m : Message) → IsInFlight x.machine m → x.mail (slot_of m) ≡ Some m
  lies m e = in_slot x.machine.net x.mail e.0 m v.carried e.1

  -- and its hart is one that there is
  pub in_range : (m : Message) → IsInFlight x.machine m → (slot_of m).hart < x.machine.setting.count
  in_range m e = v.range (slot_of m) m (lies m e)

  -- a Done in its slot is in flight
  pub done_sent : (i b : ℕ) (ok : Bool) (content : Option Block) → as_done (x.mail (slot 2 b i)) ≡ Some (ok, content) → IsInFlight x.machine (Done i b ok content)
  done_sent i b ok content e = go (x.mail (slot 2 b i)) refl e
    where
      go : (o : Option Message) → x.mail (slot 2 b i) ≡ o → as_done o ≡ Some (ok, content) → IsInFlight x.machine (Done i b ok content)
      go None z f = absurd (cc)
      go (Some m) z f =
          let k = in_flight x.machine.net x.mail (slot 2 b i) m v.carried z in
          (k.0, k.1 ∙ ap Some (done_is m b i ok content k.2 f))
