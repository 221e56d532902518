-- A transaction's abort starts, for a cause of its own, and ends once its log is empty.
use Rattle.std.proofs.Common.{◌≡◌, ◌<◌, ℕ, [], true, None, Some, refl, sym, ap, subst, ◌∙◌, false}
use Rattle.std.specs.Prelude.{IsSomeAnd}
use Rattle.words.specs.declared.cause.AbortCause.{AbortCause}
use Rattle.words.specs.declared.cause.AbortCause.TheVariants.{Asked, Conflict, LogFull, Trapped}
use Rattle.words.specs.declared.cause.Status.TheVariants.{Running}
use Rattle.words.specs.declared.entry.Entry.TheVariants.{Abort}
use Rattle.flat.specs.Bytes.{put_at}
use Rattle.flat.specs.State.{Setting, FlatHart, Tx as FlatTx}
use Rattle.flat.specs.Causes.{next_of}
use Rattle.flat.specs.Steps.{Aborts, MayAbort, CarriesSome, hart_aborted, status_for}
use Rattle.flat.specs.Reasons.{Past}
use Rattle.protocol.specs.Lines.{line_cleared}
use Rattle.protocol.specs.Hart.{Hart, Transaction, log_of}
use Rattle.protocol.specs.Core.{end_abort_row, start_abort_row}
use Rattle.isolation.proofs.OneBlock.Model.State.{at_hart, Own, Aborting}
use Rattle.isolation.proofs.OneBlock.Model.Core.{clear_marks}
use Rattle.isolation.proofs.OneBlock.Model.Step.{Ends_abort, Starts_abort}
use Rattle.isolation.proofs.OneBlock.Invariant.Each.{Good}
use Rattle.isolation.proofs.OneBlock.Facts.Runs.{goes_on}
use Rattle.isolation.proofs.OneBlock.Uses.SameStates.{good_as}
use Rattle.isolation.proofs.Machine.World.{World, copy_of, wait_at, tx_by_cause, tx_at, is_conflict, conflict_at, images_of, access_at, local_at, project, own_at}
use Rattle.isolation.proofs.Machine.Invariant.{SameTx, Inv, AbortHasReason, TxIs, HartIs}
use Rattle.isolation.proofs.Machine.Readings.{known_at}
use Rattle.isolation.proofs.Machine.Tables.{cleared_same}
use Rattle.isolation.proofs.Machine.Transactions.{Inside, inside, in_past, due_for, own_inside}
use Rattle.isolation.proofs.Words.BytesKept.{bytes_kept}
use Rattle.isolation.proofs.Core.HartResults.{Made, same_local, made_silent}

-- a hart that is aborted by a conflict has its reason
conflict_reason : (x : World) → Inv x → (i : ℕ) → i < x.machine.setting.count → (t : Transaction) (c : AbortCause) → (x.machine.harts i).tx ≡ Some t → t.aborting ≡ Some c → AbortHasReason x.history i c
conflict_reason x v i o t Asked e a = tt
conflict_reason x v i o t Conflict e a = let k = (known_at x v 0).reasons.conflict i o (ap conflict_at e ∙ ap is_conflict a) in (k.1, k.2)
conflict_reason x v i o t LogFull e a = tt
conflict_reason x v i o t (Trapped k p) e a = tt

module _ (x : World) (v : Inv x) (i : ℕ) (o : i < x.machine.setting.count) where
  abbrev s : Setting
  s = x.machine.setting

  abbrev h : Hart
  h = x.machine.harts i

  abbrev f : FlatHart
  f = x.flat.hart i

  abbrev p : Past
  p = x.history.past i

  -- it starts, for a cause of its own
  module _ (t : Transaction) (e : h.tx ≡ Some t) (q : h.request ≡ None) where
    abbrev was : ℕ → Own
    was b = own_at s b (record h { tx = Some t }) f p

    module _ (c : AbortCause) (a : t.aborting ≡ None) (n : is_conflict (Some c) ≡ false) (due : (u : FlatTx) → f.tx ≡ Some u → SameTx t u → MayAbort c f u (next_of s f)) where
      start_own : (b : ℕ) → own_at s b (record h { tx = Some (record t { aborting = Some c }) }) f p ≡ record (was b) { tx = Aborting }
      start_own b = λ k. record (was b) { tx = Aborting; conflict = (n ∙ sym (ap is_conflict a)) k }

      start_block : (b : ℕ) → Good s.count (at_hart i (local_at s b i (start_abort_row c t h).hart f p x.mail) (project b x))
      start_block b = good_as s.count (project b x) i _ _ (same_local ((project b x).hart i) _ _ _ _ refl (start_own b ∙ ap (λ (w : Own). record w { tx = Aborting }) (sym (own_inside s b h f p t e))))
          (goes_on s.count (project b x) _ (v.blocks b) (Starts_abort i o (ap (wait_at b) q) (ap tx_at e ∙ ap tx_by_cause a)))

      start_is : HartIs s (start_abort_row c t h).hart f p
      start_is =
          let m = v.harts i in
          let d = inside s h f p t m e in
          let w = in_past s h f p t m e in
          record {
            regs = m.regs;
            pc = m.pc;
            output = m.output;
            status = m.status;
            tx = subst (λ z. TxIs (Some (record t { aborting = Some c })) z) (sym d.is) (record { checkpoint = d.same.checkpoint; abort_pc = d.same.abort_pc; depth = d.same.depth; logged = d.same.logged });
            due = subst (λ z. IsSomeAnd z (λ u. MayAbort c f u (next_of s f))) (sym d.is) (due d.tx d.is d.same);
            past = record { depth = w.depth; inside = w.inside; stamp = w.stamp; ran = w.ran; none_kept = w.none_kept };
          }

      -- the abort starts, which the flat machine doesn't see
      pub made_start : Made x i (start_abort_row c t h)
      made_start = made_silent x i (start_abort_row c t h).hart None v o tt start_is start_block

  -- it ends, once its log is empty
  module _ (t : Transaction) (c : AbortCause) (e : h.tx ≡ Some t) (a : t.aborting ≡ Some c) (l : t.log ≡ []) (r : h.status ≡ Running) (q : h.request ≡ None) where
    d : Inside f t
    d = inside s h f p t (v.harts i) e

    abbrev back : FlatHart
    back = record f { regs = t.checkpoint; pc = t.abort_pc; status = status_for c; tx = None }

    back_is : (u : FlatTx) → SameTx t u → hart_aborted f c u ≡ back
    back_is u z = λ k. record f { regs = z.checkpoint k; pc = z.abort_pc k; status = status_for c; tx = None }

    carries : CarriesSome x.flat (Some (Abort i c)) (record x.flat { hart = put_at i back x.flat.hart })
    carries = subst (λ z. IsSomeAnd z (λ u. Aborts x.flat i c u (record x.flat { hart = put_at i back x.flat.hart }))) (sym d.is) (record {
      running = record { hart = subst (λ z. i < z.count) (sym v.same) o; runs = (v.harts i).status ∙ r };
      due = subst (λ z. MayAbort c f d.tx (next_of z f)) (sym v.same) (due_for s h f p t d.tx c (v.harts i) e a d.is);
      after = ap (λ z. record x.flat { hart = put_at i z x.flat.hart }) (sym (back_is d.tx d.same));
    })

    line_is : (b : ℕ) → copy_of (line_cleared (h.lines b)) ≡ clear_marks (copy_of (h.lines b))
    line_is b = cleared_same (h.lines b)

    block : (b : ℕ) → Good s.count (at_hart i (local_at s b i (end_abort_row i c t h).hart back (record p { depth = 0; was_aborted = true }) x.mail) (project b x))
    block b = good_as s.count (project b x) i _ _ (same_local ((project b x).hart i) _ _ _ _ (line_is b) refl)
        (goes_on s.count (project b x) _ (v.blocks b) (Ends_abort i (access_at b (next_of s back)) o (ap (wait_at b) q) (ap tx_at e ∙ ap tx_by_cause a) (ap (λ z. images_of b (log_of z)) e ∙ ap (images_of b) l)))

    -- the abort ends: the flat machine's transaction is rolled back
    pub made_end : Made x i (end_abort_row i c t h)
    made_end = record {
      flat_hart = back;
      mem = x.flat.mem;
      past = record p { depth = 0; was_aborted = true };
      moves = record {
        is_hart = o;
        carried = v.carried;
        range = v.range;
        off = λ s n. refl;
        sent = tt;
        carries = carries;
        reason = conflict_reason x v i o t c e a;
        told = refl;
        hart = record {
          regs = refl;
          pc = refl;
          output = (v.harts i).output;
          status = refl;
          tx = tt;
          due = tt;
          past = (refl, ap Some (sym (in_past s h f p t (v.harts i) e).stamp));
        };
        bytes = bytes_kept x.flat (record x.flat { hart = put_at i back x.flat.hart }) (Abort i c) carries v.bytes;
        blocks = block;
      };
    }
