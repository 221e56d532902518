-- A hart's transaction has given up a line: its overflow bit is set if the line was marked, and the entries say that it has spilled.
use Rattle.std.proofs.Common.{◌≡◌, ◌≢◌, ◌||◌, ℕ, Bool, true, false, Option, None, Some, cond, refl, sym, ap, ◌∙◌}
use Rattle.std.specs.Option.{option_map}
use Rattle.std.proofs.lemmas.Bool.{or_right}
use Rattle.std.proofs.Math.Bool.{or-false}
use Rattle.words.specs.declared.entry.Entry.TheVariants.{Spill}
use Rattle.words.specs.declared.stamp.Stamp.{Stamp}
use Rattle.flat.specs.Bytes.{put_at}
use Rattle.flat.specs.State.{Setting, FlatHart, Tx as FlatTx}
use Rattle.flat.specs.Steps.{CarriesSome}
use Rattle.flat.specs.Reasons.{Past, History}
use Rattle.protocol.specs.Hart.{Hart, Transaction}
use Rattle.protocol.specs.Evict.{tx_spilled}
use Rattle.isolation.proofs.OneBlock.Model.State.{Outside, Own}
use Rattle.isolation.proofs.OneBlock.Model.Core.{spill}
use Rattle.isolation.proofs.Machine.World.{World, tx_at, own_at}
use Rattle.isolation.proofs.Machine.Invariant.{TxIs, AbortIsDue, PastIs, told_some, HasReason}
use Rattle.isolation.proofs.HartMessages.OneHartMoves.{put_same}
use Rattle.isolation.proofs.Core.HartResults.{flat_still}

-- a hart's past once it has given up a line, and what is said of its transaction then: only the overflow bit may have changed
abbrev pub past_spilled : Bool → Past → Past
past_spilled m p = record p { has_spilled = p.has_spilled || m }

pub spilled_tx : (m : Bool) (a : Option Transaction) (u : Option FlatTx) → TxIs a u → TxIs (option_map (tx_spilled m) a) u
spilled_tx m None u e = e
spilled_tx m (Some t) None e = e
spilled_tx m (Some t) (Some u) e = record { checkpoint = e.checkpoint; abort_pc = e.abort_pc; depth = e.depth; logged = e.logged }

pub spilled_due : (s : Setting) (m : Bool) (a : Option Transaction) (f : FlatHart) → AbortIsDue s a f → AbortIsDue s (option_map (tx_spilled m) a) f
spilled_due s m None f e = e
spilled_due s m (Some t) f e = e

pub spilled_past : (m : Bool) (a : Option Transaction) (kept : Option Stamp) (p : Past) → PastIs a kept p → PastIs (option_map (tx_spilled m) a) kept (past_spilled m p)
spilled_past m None kept p e = e
spilled_past m (Some t) kept p e = record { depth = e.depth; inside = e.inside; stamp = e.stamp; ran = e.ran; none_kept = e.none_kept }

-- its own fields at a block; a hart outside a transaction gives up no marked line
pub spilled_own : (s : Setting) (b : ℕ) (m : Bool) (a : Option Transaction) (h : Hart) (f : FlatHart) (p : Past) → (m ≡ true → tx_at a ≢ Outside) → own_at s b (record h { tx = option_map (tx_spilled m) a }) f (past_spilled m p) ≡ spill m (own_at s b (record h { tx = a }) f p)
spilled_own s b true None h f p n = absurd (n refl refl)
spilled_own s b false None h f p n = refl
spilled_own s b m (Some t) h f p n = refl

-- a marked line sets both bits
pub spill_true : (w : Own) → spill true w ≡ record w { overflow = true; spilled = true }
spill_true w = λ k. record w { overflow = or_right w.overflow true refl k; spilled = or_right w.spilled true refl k }

-- and another none
pub spill_false : (w : Own) → spill false w ≡ w
spill_false w = λ k. record w { overflow = or-false w.overflow k; spilled = or-false w.spilled k }

-- what the entries say then
pub told_spilled : (g : History) (i b : ℕ) (m : Bool) → told_some g (cond m (Some (Spill i b)) None) ≡ record g { past = put_at i (past_spilled m (g.past i)) g.past }
told_spilled g i b true = λ k. record g { past = put_at i (record (g.past i) { has_spilled = sym (or_right (g.past i).has_spilled true refl) k }) g.past }
told_spilled g i b false = ap (λ q. record g { past = q }) (sym (put_same i g.past)) ∙ (λ k. record g { past = put_at i (record (g.past i) { has_spilled = sym (or-false (g.past i).has_spilled) k }) g.past })

-- the flat machine doesn't see it
pub spill_carries : (x : World) (i b : ℕ) (m : Bool) → CarriesSome x.flat (cond m (Some (Spill i b)) None) (record x.flat { hart = put_at i (x.flat.hart i) x.flat.hart })
spill_carries x i b true = flat_still x i
spill_carries x i b false = flat_still x i

-- and it needs no reason
pub spill_reason : (x : World) (i b : ℕ) (m : Bool) → HasReason x.flat x.history (cond m (Some (Spill i b)) None)
spill_reason x i b true = tt
spill_reason x i b false = tt
