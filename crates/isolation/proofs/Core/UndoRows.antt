-- A hart that is being aborted undoes the newest record of its log.
use Rattle.std.proofs.Common.{◌≡◌, ◌≢◌, ◌<◌, ◌≤◌, ℕ, List, ◌∷◌, true, None, Some, suc, min, length, sym, ap, subst, ◌∙◌, arith}
use Rattle.words.specs.declared.cause.AbortCause.{AbortCause}
use Rattle.flat.specs.State.{Setting, FlatHart}
use Rattle.flat.specs.Reasons.{Past}
use Rattle.flat.proofs.Maps.{put_there, put_elsewhere}
use Rattle.words.specs.LineStates.{is_owned}
use Rattle.protocol.specs.Lines.{Line, line_undone}
use Rattle.protocol.specs.Hart.{Hart, Transaction, LogRecord}
use Rattle.protocol.specs.Core.{undo_row}
use Rattle.isolation.proofs.OneBlock.Model.State.{Own, at_hart}
use Rattle.isolation.proofs.OneBlock.Model.Core.{put_back}
use Rattle.isolation.proofs.OneBlock.Model.Step.{Undoes}
use Rattle.isolation.proofs.OneBlock.Invariant.Each.{Good}
use Rattle.isolation.proofs.OneBlock.Facts.Runs.{goes_on}
use Rattle.isolation.proofs.OneBlock.Uses.SameStates.{good_as, good_still}
use Rattle.isolation.proofs.Machine.World.{World, copy_of, wait_at, tx_by_cause, tx_at, images_of, own_at, local_at, project}
use Rattle.isolation.proofs.Machine.Invariant.{TxIs, AbortIsDue, HartIs, Inv}
use Rattle.isolation.proofs.Machine.Tables.{owned_enough, record_here, record_off}
use Rattle.isolation.proofs.Machine.Transactions.{inside, in_past, own_inside}
use Rattle.isolation.proofs.Core.HartResults.{at_block, Made, made_silent, same_local}

module _ (x : World) (v : Inv x) (i : ℕ) (o : i < x.machine.setting.count) where
  abbrev s : Setting
  s = x.machine.setting

  abbrev h : Hart
  h = x.machine.harts i

  abbrev f : FlatHart
  f = x.flat.hart i

  abbrev p : Past
  p = x.history.past i

  module _ (t : Transaction) (e : h.tx ≡ Some t) (q : h.request ≡ None) where
    abbrev was : ℕ → Own
    was b = own_at s b (record h { tx = Some t }) f p

    -- the newest record
    module _ (c : AbortCause) (a : t.aborting ≡ Some c) (r : LogRecord) (rest : List LogRecord) (g : t.log ≡ r ∷ rest) (l : Line) (m : h.lines r.block ≡ Some l) (y : is_owned l.state ≡ true) where
      abbrev undone : Hart
      undone = (undo_row t r rest l h).hart

      was_images : (b : ℕ) → (was b).images ≡ images_of b (r ∷ rest)
      was_images b = ap (images_of b) g

      line_here : copy_of (undone.lines r.block) ≡ put_back r.before (copy_of (h.lines r.block))
      line_here = ap copy_of (put_there r.block (Some (line_undone r.before l)) h.lines) ∙ ap (λ z. put_back r.before (copy_of z)) (sym m)

      line_off : (b : ℕ) → b ≢ r.block → copy_of (undone.lines b) ≡ copy_of (h.lines b)
      line_off b n = ap copy_of (put_elsewhere r.block b (Some (line_undone r.before l)) h.lines n)

      undo_block : (b : ℕ) → Good s.count (at_hart i (local_at s b i undone f p x.mail) (project b x))
      undo_block b = at_block (λ b. Good s.count (at_hart i (local_at s b i undone f p x.mail) (project b x))) r.block b here off
        where
          here : Good s.count (at_hart i (local_at s r.block i undone f p x.mail) (project r.block x))
          here = good_as s.count (project r.block x) i _ _
              (same_local ((project r.block x).hart i) _ _ _ _ line_here (ap (λ (w : Own). record w { images = images_of r.block rest }) (sym (own_inside s r.block h f p t e))))
              (goes_on s.count (project r.block x) _ (v.blocks r.block) (Undoes i r.before (images_of r.block rest) o (ap (wait_at r.block) q) (ap tx_at e ∙ ap tx_by_cause a) (ap (λ w. w.images) (own_inside s r.block h f p t e) ∙ was_images r.block ∙ record_here r rest) (owned_enough (h.lines r.block) l m y)))

          off : b ≢ r.block → Good s.count (at_hart i (local_at s b i undone f p x.mail) (project b x))
          off n = good_still s.count (project b x) i _
              (same_local ((project b x).hart i) _ _ _ _ (line_off b n) (ap (λ z. record (was b) { images = z }) (sym (was_images b ∙ record_off r rest b n)) ∙ sym (own_inside s b h f p t e)))
              (v.blocks b)

      shorter : (u : ℕ) → length t.log ≤ u → length rest ≤ u
      shorter u z = let k : suc (length rest) ≤ u = subst (λ w. length w ≤ u) g z in omega (arith, k)

      undo_is : HartIs s undone f p
      undo_is =
          let z = v.harts i in
          let d = inside s h f p t z e in
          let w = in_past s h f p t z e in
          record {
            regs = z.regs;
            pc = z.pc;
            output = z.output;
            status = z.status;
            tx = subst (λ y. TxIs (Some (record t { log = rest })) y) (sym d.is) (record { checkpoint = d.same.checkpoint; abort_pc = d.same.abort_pc; depth = d.same.depth; logged = shorter (min d.tx.stores 113) d.same.logged });
            due = subst (λ y. AbortIsDue s y f) e z.due;
            past = record { depth = w.depth; inside = w.inside; stamp = w.stamp; ran = w.ran; none_kept = w.none_kept };
          }

      -- the record is undone, which the flat machine doesn't see
      pub made_undo : Made x i (undo_row t r rest l h)
      made_undo = made_silent x i undone None v o tt undo_is undo_block
