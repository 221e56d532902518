-- A hart refuses another: what it is then, as a whole and at a block.
use Rattle.std.proofs.Common.{◌≡◌, ℕ, Bool, false, Option, None, Some, refl, sym, ap, ◌∙◌, arith}
use Rattle.std.specs.Prelude.{◌||◌}
use Rattle.std.specs.Option.{option_map}
use Rattle.words.specs.declared.stamp.Stamp.{Stamp}
use Rattle.words.specs.Stamps.{earlier}
use Rattle.words.specs.declared.message.Kind.{Kind}
use Rattle.flat.specs.State.{Setting, FlatHart, Tx as FlatTx}
use Rattle.flat.specs.Reasons.{Past}
use Rattle.protocol.specs.Messages.{Forward, Nack}
use Rattle.protocol.specs.Hart.{Hart, Transaction, stamp_of, overflow_of, log_of}
use Rattle.protocol.specs.HartMessages.{tx_refusing, refuse_row}
use Rattle.isolation.proofs.OneBlock.Model.State.{sooner, Own}
use Rattle.isolation.proofs.OneBlock.Model.Messages.{refuse}
use Rattle.isolation.proofs.Machine.Slots.{slot, at_slot, Mail, at_here}
use Rattle.isolation.proofs.Machine.World.{as_forward, as_nack, tx_at, conflict_at, cycle_of, images_of, own_at, local_at}
use Rattle.isolation.proofs.Machine.Invariant.{TxIs, AbortIsDue, PastIs, HartIs}
use Rattle.isolation.proofs.Machine.Tables.{sooner_is}
use Rattle.isolation.proofs.Machine.Transactions.{past_refused}
use Rattle.isolation.proofs.HartMessages.Arrivals.{mail_after}

-- The transaction of the hart that refuses

ref_tx : (st : Option Stamp) (t : Option Transaction) → tx_at (option_map (tx_refusing st) t) ≡ tx_at t
ref_tx st t = grind arith

ref_conflict : (st : Option Stamp) (t : Option Transaction) → conflict_at (option_map (tx_refusing st) t) ≡ conflict_at t
ref_conflict st t = grind arith

ref_overflow : (st : Option Stamp) (t : Option Transaction) → overflow_of (option_map (tx_refusing st) t) ≡ overflow_of t
ref_overflow st t = grind arith

ref_stamp : (st : Option Stamp) (t : Option Transaction) → stamp_of (option_map (tx_refusing st) t) ≡ stamp_of t
ref_stamp st t = grind arith

ref_log : (st : Option Stamp) (t : Option Transaction) → log_of (option_map (tx_refusing st) t) ≡ log_of t
ref_log st t = grind arith

none_earlier : (st : Option Stamp) → earlier st None ≡ false
none_earlier None = refl
none_earlier (Some a) = refl

ref_cycle : (st : Option Stamp) (t : Option Transaction) → cycle_of (option_map (tx_refusing st) t) ≡ (cycle_of t || earlier st (stamp_of t))
ref_cycle st None = sym (none_earlier st)
ref_cycle st (Some t) = refl

ref_is : (st : Option Stamp) (t : Option Transaction) (u : Option FlatTx) → TxIs t u → TxIs (option_map (tx_refusing st) t) u
ref_is st t u z = grind arith

ref_due : (s : Setting) (st : Option Stamp) (t : Option Transaction) (f : FlatHart) → AbortIsDue s t f → AbortIsDue s (option_map (tx_refusing st) t) f
ref_due s st None f d = tt
ref_due s st (Some t) f d = d

ref_past : (st : Option Stamp) (t : Option Transaction) (k : Option Stamp) (p : Past) → PastIs t k p → PastIs (option_map (tx_refusing st) t) k p
ref_past st t k p z = grind arith

-- the hart, once it has refused
abbrev pub refusing : Option Stamp → Hart → Hart
refusing st h = record h { tx = option_map (tx_refusing st) h.tx }

-- it is the flat machine's still
pub hart_refusing : (s : Setting) (st : Option Stamp) (h : Hart) (f : FlatHart) (p : Past) → HartIs s h f p → HartIs s (refusing st h) f p
hart_refusing s st h f p z = record {
  regs = z.regs;
  pc = z.pc;
  output = z.output;
  status = z.status;
  tx = ref_is st h.tx f.tx z.tx;
  due = ref_due s st h.tx f z.due;
  past = ref_past st h.tx h.kept_stamp p z.past;
}

-- a hart that is as it was, whatever is told of refusals
pub hart_told : (s : Setting) (h : Hart) (f : FlatHart) (p : Past) (a c : Bool) → HartIs s h f p → HartIs s h f (record p { refused_earlier = a; was_refused = c })
hart_told s h f p a c z = record { regs = z.regs; pc = z.pc; output = z.output; status = z.status; tx = z.tx; due = z.due; past = past_refused h.tx h.kept_stamp p a c z.past }

-- At a block

-- what refusing makes of a hart, at any block: the second test is on what the entries say
abbrev pub own_refusing : Bool → Bool → Own → Own
own_refusing a b o = record o { flag = o.flag || a; refused_earlier = o.refused_earlier || b }

-- its own fields then
pub refuser_own : (s : Setting) (b : ℕ) (st : Option Stamp) (h : Hart) (f : FlatHart) (p : Past) (a : Bool) → own_at s b (refusing st h) f (record p { refused_earlier = p.refused_earlier || a }) ≡ own_refusing (earlier st (stamp_of h.tx)) a (own_at s b h f p)
refuser_own s b st h f p a = λ k. record (own_refusing (earlier st (stamp_of h.tx)) a (own_at s b h f p)) {
  tx = ref_tx st h.tx k;
  conflict = ref_conflict st h.tx k;
  overflow = ref_overflow st h.tx k;
  flag = ref_cycle st h.tx k;
  stamp = ref_stamp st h.tx k;
  images = images_of b (ref_log st h.tx k);
}

-- at the block of the forward; now is the requester's stamp
pub refuser_here : (s : Setting) (b i : ℕ) (k : Kind) (r : ℕ) (st now : Option Stamp) (h : Hart) (f : FlatHart) (p : Past) (mail : Mail) → local_at s b i (refusing st h) f (record p { refused_earlier = p.refused_earlier || earlier now (stamp_of h.tx) }) (mail_after (Forward i b k r st) (refuse_row i b r st h) mail) ≡ refuse r st now (local_at s b i h f p mail)
refuser_here s b i k r st now h f p mail = λ q. record (refuse r st now (local_at s b i h f p mail)) {
  fwd = ap as_forward (at_here (slot 4 b i) None mail) q;
  nack = ap as_nack (at_here (slot 7 b i) (Some (Nack i r b (stamp_of h.tx))) (at_slot (slot 4 b i) None mail)) q;
  own = (refuser_own s b st h f p (earlier now (stamp_of h.tx)) ∙ ap (λ y. own_refusing y (earlier now (stamp_of h.tx)) (own_at s b h f p)) (sym (sooner_is st (stamp_of h.tx))) ∙ ap (λ y. own_refusing (sooner st (stamp_of h.tx)) y (own_at s b h f p)) (sym (sooner_is now (stamp_of h.tx)))) q;
}
