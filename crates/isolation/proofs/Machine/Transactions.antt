-- A hart's transaction: what it is in the flat machine and in the entries, and when it is in none, or being aborted.
use Rattle.std.proofs.Common.{◌≡◌, ◌≢◌, ℕ, Option, None, Some, cond, refl, ap, subst, Bool, arith}
use Rattle.std.specs.Prelude.{IsSomeAnd}
use Rattle.std.proofs.lemmas.Option.{same_Some}
use Rattle.words.specs.declared.cause.AbortCause.{AbortCause}
use Rattle.words.specs.declared.stamp.Stamp.{Stamp}
use Rattle.flat.specs.State.{Setting, FlatHart, Tx as FlatTx}
use Rattle.flat.specs.Causes.{next_of}
use Rattle.flat.specs.Steps.{MayAbort}
use Rattle.flat.specs.Reasons.{Past}
use Rattle.protocol.specs.Hart.{Hart, Transaction}
use Rattle.isolation.proofs.OneBlock.Model.State.{Aborting}
use Rattle.isolation.proofs.Machine.World.{tx_by_cause, tx_at, own_at}
use Rattle.isolation.proofs.Machine.Invariant.{SameTx, TxIs, CauseIsDue, AbortIsDue, InPast, PastIs, HartIs}

-- A hart in a transaction

-- the flat machine's transaction of a hart that has one
pub record Inside (f : FlatHart) (t : Transaction) : Type 0 where
  pub tx : FlatTx
  pub is : f.tx ≡ Some tx
  pub same : SameTx t tx

inside_by : (f : FlatHart) (a : Option Transaction) (b : Option FlatTx) (t : Transaction) → f.tx ≡ b → a ≡ Some t → TxIs a b → Inside f t
inside_by f None b t z e i = absurd (cc)
inside_by f (Some q) None t z e i = absurd i
inside_by f (Some q) (Some u) t z e i = record { tx = u; is = z; same = subst (λ k. SameTx k u) (same_Some q t e) i }

-- a hart in a transaction is in one in the flat machine
pub inside : (s : Setting) (h : Hart) (f : FlatHart) (p : Past) (t : Transaction) → HartIs s h f p → h.tx ≡ Some t → Inside f t
inside s h f p t i e = inside_by f h.tx f.tx t refl e i.tx

-- what the entries say of it
pub in_past : (s : Setting) (h : Hart) (f : FlatHart) (p : Past) (t : Transaction) → HartIs s h f p → h.tx ≡ Some t → InPast t h.kept_stamp p
in_past s h f p t i e = subst (λ o. PastIs o h.kept_stamp p) e i.past

-- a hart's own fields at a block, where its transaction is known
pub own_inside : (s : Setting) (b : ℕ) (h : Hart) (f : FlatHart) (p : Past) (t : Transaction) → h.tx ≡ Some t → own_at s b h f p ≡ own_at s b (record h { tx = Some t }) f p
own_inside s b h f p t e = ap (λ z. own_at s b (record h { tx = z }) f p) e

-- A hart in none

none_by : (a : Option Transaction) (b : Option FlatTx) → a ≡ None → TxIs a b → b ≡ None
none_by None None z k = refl
none_by None (Some u) z k = absurd k
none_by (Some t) b z k = absurd (cc)

-- the flat machine has none of it either
pub outside : (s : Setting) (h : Hart) (f : FlatHart) (p : Past) → HartIs s h f p → h.tx ≡ None → f.tx ≡ None
outside s h f p i e = none_by h.tx f.tx e i.tx

-- what the entries say then
pub past_outside : (s : Setting) (h : Hart) (f : FlatHart) (p : Past) → HartIs s h f p → h.tx ≡ None → (p.depth ≡ 0) × (h.kept_stamp ≡ cond p.was_aborted (Some p.stamp) None)
past_outside s h f p i e = subst (λ z. PastIs z h.kept_stamp p) e i.past

-- Refusals

-- what is told of refusals leaves what the entries say of a transaction
pub past_refused : (t : Option Transaction) (k : Option Stamp) (p : Past) (a c : Bool) → PastIs t k p → PastIs t k (record p { refused_earlier = a; was_refused = c })
past_refused t k p a c z = grind arith

-- Aborts

-- a hart that is being aborted may be
pub due_for : (s : Setting) (h : Hart) (f : FlatHart) (p : Past) (t : Transaction) (u : FlatTx) (c : AbortCause) → HartIs s h f p → h.tx ≡ Some t → t.aborting ≡ Some c → f.tx ≡ Some u → MayAbort c f u (next_of s f)
due_for s h f p t u c i e a k = subst (λ o. IsSomeAnd o (λ u. MayAbort c f u (next_of s f))) k (subst (λ o. CauseIsDue s o f) a (subst (λ o. AbortIsDue s o f) e i.due))

-- nothing is due of a hart that isn't being aborted
pub due_none : (s : Setting) (a : Option AbortCause) (f : FlatHart) → a ≡ None → CauseIsDue s a f
due_none s None f e = tt
due_none s (Some c) f e = absurd (cc)

-- so it is for a hart
pub due_free : (s : Setting) (a : Option Transaction) (f : FlatHart) → tx_at a ≢ Aborting → AbortIsDue s a f
due_free s None f n = tt
due_free s (Some t) f n = by_cause t.aborting n
  where
    by_cause : (a : Option AbortCause) → tx_by_cause a ≢ Aborting → CauseIsDue s a f
    by_cause None n = tt
    by_cause (Some c) n = absurd (n refl)

-- a transaction that isn't being aborted has no cause
pub not_aborting : (t : Transaction) → tx_by_cause t.aborting ≢ Aborting → t.aborting ≡ None
not_aborting t n = by_cause t.aborting n
  where
    by_cause : (a : Option AbortCause) → tx_by_cause a ≢ Aborting → a ≡ None
    by_cause None n = refl
    by_cause (Some c) n = absurd (n refl)
