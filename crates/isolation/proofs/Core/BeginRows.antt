-- Words that begin a transaction: the outermost begin, and a nested one.
use Rattle.std.proofs.Common.{◌≡◌, ◌≢◌, ◌<◌, ◌+◌, ◌==◌, ◌&&◌, ℕ, Bool, true, false, not, Option, None, Some, Ok, cond, is_none, refl, sym, ap, subst, ◌∙◌, arith}
use Rattle.std.specs.Prelude.{unwrap_or}
use Rattle.std.proofs.lemmas.Bool.{ne_eqb}
use Rattle.words.specs.declared.stamp.Stamp.{Stamp}
use Rattle.table.specs.declared.effect.Act.TheVariants as act
use Rattle.flat.specs.State.{Setting, FlatHart, Tx as FlatTx, flat_view}
use Rattle.flat.specs.Causes.{next_of}
use Rattle.flat.specs.Effects.{hart_after, begun, tx_by, mem_by}
use Rattle.flat.specs.Reasons.{Past, past_begun}
use Rattle.protocol.specs.Hart.{Hart, Transaction}
use Rattle.protocol.specs.Core.{begin_row, tx_begun, no_memory, word_of}
use Rattle.isolation.proofs.OneBlock.Model.State.{Aborting, at_hart}
use Rattle.isolation.proofs.OneBlock.Model.Core.{retire}
use Rattle.isolation.proofs.OneBlock.Model.Step.{Begins}
use Rattle.isolation.proofs.OneBlock.Invariant.Each.{Good}
use Rattle.isolation.proofs.OneBlock.Facts.Runs.{goes_on}
use Rattle.isolation.proofs.OneBlock.Uses.SameStates.{good_as}
use Rattle.isolation.proofs.Machine.World.{World, wait_at, tx_at, own_at, access_at, local_at, project}
use Rattle.isolation.proofs.Machine.Invariant.{InPast, Inv}
use Rattle.isolation.proofs.Machine.Transactions.{Inside, inside, in_past, outside, past_outside, due_none, not_aborting}
use Rattle.isolation.proofs.Words.NextWord.{next_done}
use Rattle.isolation.proofs.Core.HartResults.{Made, same_local}
use Rattle.isolation.proofs.Core.RetireRows.{Ready, made_retire, effect, retires_at}

module _ (x : World) (v : Inv x) (i : ℕ) (o : i < x.machine.setting.count) (r : Ready (x.machine.harts i)) (nx : ℕ) (wr : Option (ℕ × ℕ)) where
  abbrev s : Setting
  s = x.machine.setting

  abbrev h : Hart
  h = x.machine.harts i

  abbrev f : FlatHart
  f = x.flat.hart i

  abbrev p : Past
  p = x.history.past i

  abbrev view : ℕ → ℕ
  view = flat_view x.flat i

  abbrev word : ℕ
  word = word_of s h

  -- one deeper, or back by one: the transaction's depth alone changes
  module _ (t : Transaction) (e : h.tx ≡ Some t) where
    free : t.aborting ≡ None
    free = not_aborting t (subst (λ z. tx_at z ≢ Aborting) e r.acts)

    d : Inside f t
    d = inside s h f p t (v.harts i) e

    w : InPast t h.kept_stamp p
    w = in_past s h f p t (v.harts i) e

    pub nested_at : (n m k : ℕ) (u : FlatTx) (F : FlatHart) (b : ℕ) → f.tx ≡ Some u → F.tx ≡ Some (record u { depth = m }) → Good s.count (at_hart i (local_at s b i (record h { tx = Some (record t { depth = n }) }) F (record p { depth = k; was_refused = false }) x.mail) (project b x))
    nested_at n m k u F b y z = good_as s.count (project b x) i _ _ (same_local ((project b x).hart i) _ _ _ _ refl own_is) (retires_at x v i o r F b)
      where
        own_is : own_at s b (record h { tx = Some (record t { depth = n }) }) F (record p { depth = k; was_refused = false }) ≡ retire (access_at b (next_of s F)) (own_at s b h f p)
        own_is = grind (arith, e, y, z)

    not_zero : (p.depth == 0) ≡ false
    not_zero = ne_eqb p.depth 0 (λ z. omega (arith, z, w.depth, w.inside))

    -- a nested begin
    pub made_deeper : (a : ℕ) → next_of s f ≡ Ok (effect nx wr (act.Begin a)) → Made x i (begin_row i x.machine.stamps word (effect nx wr (act.Begin a)) a (Some t) h)
    made_deeper a ok = made_retire x v i o (effect nx wr (act.Begin a)) no_memory (record h { tx = Some (record t { depth = t.depth + 1 }) }) false (Some (record d.tx { depth = d.tx.depth + 1 })) x.flat.mem (record p { depth = p.depth + 1; was_refused = false }) (record {
      next = next_done s f (effect nx wr (act.Begin a)) false ok;
      no_abort = refl;
      allowed = tt;
      same_pc = refl;
      same_regs = refl;
      same_output = refl;
      write = refl;
      entry = refl;
      stamp_is = ap (λ z. z && not p.was_aborted) not_zero;
      tx_is = ap (λ z. tx_by view f z (act.Begin a)) d.is;
      mem_is = refl;
      past_is = ap (λ z. cond z (past_begun x.history.taken i p) (record p { depth = p.depth + 1; was_refused = false })) not_zero;
      has_tx = record { checkpoint = d.same.checkpoint; abort_pc = d.same.abort_pc; depth = ap (λ z. z + 1) d.same.depth; logged = d.same.logged };
      due = due_none s t.aborting _ free;
      has_past = record { depth = ap (λ z. z + 1) w.depth; inside = omega (arith); stamp = w.stamp; ran = w.ran; none_kept = w.none_kept };
      blocks = λ b. nested_at (t.depth + 1) (d.tx.depth + 1) (p.depth + 1) d.tx (record (hart_after view f (effect nx wr (act.Begin a))) { tx = Some (record d.tx { depth = d.tx.depth + 1 }) }) b d.is refl;
    }) r.runs

  -- the outermost begin
  module _ (e : h.tx ≡ None) where
    past_out : (p.depth ≡ 0) × (h.kept_stamp ≡ cond p.was_aborted (Some p.stamp) None)
    past_out = past_outside s h f p (v.harts i) e

    is_new : (p.depth == 0) ≡ true
    is_new = ap (λ z. z == 0) past_out.0

    none_kept_by : (b : Bool) (a : Stamp) (k : Option Stamp) → k ≡ cond b (Some a) None → not b ≡ is_none k
    none_kept_by true a k z = sym (ap is_none z)
    none_kept_by false a k z = sym (ap is_none z)

    stamp_by_kept : (b : Bool) (a c : Stamp) (k : Option Stamp) → k ≡ cond b (Some a) None → cond b a c ≡ unwrap_or k c
    stamp_by_kept true a c k z = sym (ap (λ y. unwrap_or y c) z)
    stamp_by_kept false a c k z = sym (ap (λ y. unwrap_or y c) z)

    -- the outermost begin: with its kept stamp, or a new one
    pub made_begin : (a : ℕ) → next_of s f ≡ Ok (effect nx wr (act.Begin a)) → Made x i (begin_row i x.machine.stamps word (effect nx wr (act.Begin a)) a None h)
    made_begin a ok = made_retire x v i o (effect nx wr (act.Begin a)) no_memory (record h { tx = Some (tx_begun i x.machine.stamps a h); kept_stamp = None; reserved = None }) (is_none h.kept_stamp) (Some (begun f a)) x.flat.mem (past_begun x.history.taken i p) (record {
      next = next_done s f (effect nx wr (act.Begin a)) false ok;
      no_abort = refl;
      allowed = tt;
      same_pc = refl;
      same_regs = refl;
      same_output = refl;
      write = refl;
      entry = refl;
      stamp_is = ap (λ z. z && not p.was_aborted) is_new ∙ none_kept_by p.was_aborted p.stamp h.kept_stamp past_out.1;
      tx_is = ap (λ z. tx_by view f z (act.Begin a)) (outside s h f p (v.harts i) e);
      mem_is = ap (λ z. mem_by view z x.flat.mem (act.Begin a)) (outside s h f p (v.harts i) e);
      past_is = ap (λ z. cond z (past_begun x.history.taken i p) (record p { depth = p.depth + 1; was_refused = false })) is_new;
      has_tx = record { checkpoint = (v.harts i).regs; abort_pc = refl; depth = refl; logged = omega (arith) };
      due = tt;
      has_past = record { depth = refl; inside = omega (arith); stamp = ap (λ z. cond p.was_aborted p.stamp (record { count = z; hart = i })) v.taken ∙ stamp_by_kept p.was_aborted p.stamp (record { count = x.machine.stamps; hart = i }) h.kept_stamp past_out.1; ran = refl; none_kept = refl };
      blocks = λ b. goes_on s.count (project b x) _ (v.blocks b) (Begins i (tx_begun i x.machine.stamps a h).stamp (access_at b (next_of s (record (hart_after view f (effect nx wr (act.Begin a))) { tx = Some (begun f a) }))) o (ap (wait_at b) r.free) (ap tx_at e));
    }) r.runs
