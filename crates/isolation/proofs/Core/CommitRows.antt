-- Words that end a transaction: a nested commit, and the outermost one.
use Rattle.std.proofs.Common.{◌≡◌, ◌≢◌, ◌<◌, ◌-◌, ◌==◌, ℕ, false, Option, None, Some, Ok, cond, refl, sym, ap, subst, ◌∙◌, arith}
use Rattle.std.proofs.lemmas.Bool.{ne_eqb}
use Rattle.table.specs.declared.effect.Act.TheVariants as act
use Rattle.flat.specs.State.{Setting, FlatHart, flat_view, seen}
use Rattle.flat.specs.Causes.{next_of}
use Rattle.flat.specs.Effects.{hart_after, tx_by, mem_by}
use Rattle.flat.specs.Reasons.{Past}
use Rattle.protocol.specs.Lines.{words_at, line_cleared}
use Rattle.protocol.specs.Hart.{Hart, Transaction}
use Rattle.protocol.specs.Core.{retire_row, no_memory, word_of}
use Rattle.isolation.proofs.OneBlock.Model.State.{Aborting, at_hart, lay}
use Rattle.isolation.proofs.OneBlock.Model.Core.{commit}
use Rattle.isolation.proofs.OneBlock.Model.Step.{with_flat, Commits}
use Rattle.isolation.proofs.OneBlock.Invariant.Each.{Good}
use Rattle.isolation.proofs.OneBlock.Facts.Runs.{goes_on}
use Rattle.isolation.proofs.Machine.World.{World, wait_at, tx_by_cause, tx_at, writes_at, access_at, local_at, project}
use Rattle.isolation.proofs.Machine.Invariant.{InPast, Inv}
use Rattle.isolation.proofs.Machine.Tables.{cleared_same}
use Rattle.isolation.proofs.Machine.Transactions.{Inside, inside, in_past, due_none, not_aborting}
use Rattle.isolation.proofs.Words.Laying.{WritesWithin, commit_lays}
use Rattle.isolation.proofs.Words.NextWord.{next_done}
use Rattle.isolation.proofs.Core.HartResults.{Made, same_local}
use Rattle.isolation.proofs.Core.RetireRows.{Ready, made_retire, effect}
use Rattle.isolation.proofs.Core.BeginRows.{nested_at}

module _ (x : World) (v : Inv x) (i : ℕ) (o : i < x.machine.setting.count) (r : Ready (x.machine.harts i)) (nx : ℕ) (wr : Option (ℕ × ℕ)) where
  abbrev s : Setting
  s = x.machine.setting

  abbrev h : Hart
  h = x.machine.harts i

  abbrev f : FlatHart
  f = x.flat.hart i

  abbrev p : Past
  p = x.history.past i

  abbrev view : ℕ → ℕ
  view = flat_view x.flat i

  abbrev word : ℕ
  word = word_of s h

  -- a hart in a transaction that goes on
  module _ (t : Transaction) (e : h.tx ≡ Some t) where
    free : t.aborting ≡ None
    free = not_aborting t (subst (λ z. tx_at z ≢ Aborting) e r.acts)

    d : Inside f t
    d = inside s h f p t (v.harts i) e

    w : InPast t h.kept_stamp p
    w = in_past s h f p t (v.harts i) e

    within : WritesWithin (Some d.tx)
    within = subst WritesWithin d.is (v.bytes.within i)

    -- the end of one that is nested
    pub made_shallower : t.depth ≢ 1 → next_of s f ≡ Ok (effect nx wr act.Commit) → Made x i (retire_row i no_memory word (effect nx wr act.Commit) (record h { tx = Some (record t { depth = t.depth - 1 }) }))
    made_shallower n ok = made_retire x v i o (effect nx wr act.Commit) no_memory (record h { tx = Some (record t { depth = t.depth - 1 }) }) false (Some (record d.tx { depth = d.tx.depth - 1 })) x.flat.mem (record p { depth = p.depth - 1; was_refused = false }) (record {
      next = next_done s f (effect nx wr act.Commit) false ok;
      no_abort = refl;
      allowed = tt;
      same_pc = refl;
      same_regs = refl;
      same_output = refl;
      write = refl;
      entry = refl;
      stamp_is = refl;
      tx_is = ap (λ z. tx_by view f z act.Commit) d.is ∙ ap (λ z. cond z None (Some (record d.tx { depth = d.tx.depth - 1 }))) not_one;
      mem_is = ap (λ z. mem_by view z x.flat.mem act.Commit) d.is ∙ (λ k a. cond (not_one k) (seen (Some d.tx) x.flat.mem a) (x.flat.mem a));
      past_is = refl;
      has_tx = record { checkpoint = d.same.checkpoint; abort_pc = d.same.abort_pc; depth = ap (λ z. z - 1) d.same.depth; logged = d.same.logged };
      due = due_none s t.aborting _ free;
      has_past = record { depth = ap (λ z. z - 1) w.depth; inside = omega (arith, n, w.inside); stamp = w.stamp; ran = w.ran; none_kept = w.none_kept };
      blocks = λ b. nested_at x v i o r nx wr t e (t.depth - 1) (d.tx.depth - 1) (p.depth - 1) d.tx (record (hart_after view f (effect nx wr act.Commit)) { tx = Some (record d.tx { depth = d.tx.depth - 1 }) }) b d.is refl;
    }) r.runs
      where
        not_one : (d.tx.depth == 1) ≡ false
        not_one = ne_eqb d.tx.depth 1 (λ z. n (sym d.same.depth ∙ z))

    -- and of the outermost: memory has what the transaction wrote
    pub made_commit : t.depth ≡ 1 → next_of s f ≡ Ok (effect nx wr act.Commit) → Made x i (retire_row i no_memory word (effect nx wr act.Commit) (record h { tx = None; reserved = None; lines = λ b. line_cleared (h.lines b) }))
    made_commit one ok = made_retire x v i o (effect nx wr act.Commit) no_memory (record h { tx = None; reserved = None; lines = λ b. line_cleared (h.lines b) }) false None (mem_by view f.tx x.flat.mem act.Commit) (record p { depth = p.depth - 1; was_refused = false }) (record {
      next = next_done s f (effect nx wr act.Commit) false ok;
      no_abort = refl;
      allowed = tt;
      same_pc = refl;
      same_regs = refl;
      same_output = refl;
      write = refl;
      entry = refl;
      stamp_is = refl;
      tx_is = ap (λ z. tx_by view f z act.Commit) d.is ∙ ap (λ z. cond z None (Some (record d.tx { depth = d.tx.depth - 1 }))) (ap (λ z. z == 1) (d.same.depth ∙ one));
      mem_is = refl;
      past_is = refl;
      has_tx = tt;
      due = tt;
      has_past = (ap (λ z. z - 1) (w.depth ∙ one), w.none_kept ∙ ap (λ z. cond z (Some p.stamp) None) (sym w.ran));
      blocks = block;
    }) r.runs
      where
        laid : (b : ℕ) → words_at (mem_by view f.tx x.flat.mem act.Commit) b ≡ lay ((project b x).hart i).own.writes (words_at x.flat.mem b)
        laid b = ap (λ z. words_at (mem_by view z x.flat.mem act.Commit) b) d.is ∙ commit_lays view d.tx x.flat.mem b (d.same.depth ∙ one) v.bytes.mem within ∙ ap (λ z. lay (writes_at b z) (words_at x.flat.mem b)) (sym d.is)

        block : (b : ℕ) → Good s.count (with_flat (words_at (mem_by view f.tx x.flat.mem act.Commit) b) (at_hart i (local_at s b i (retire_row i no_memory word (effect nx wr act.Commit) (record h { tx = None; reserved = None; lines = λ b. line_cleared (h.lines b) })).hart (record (hart_after view f (effect nx wr act.Commit)) { tx = None }) (record p { depth = p.depth - 1; was_refused = false }) x.mail) (project b x)))
        block b =
            let F : FlatHart = record (hart_after view f (effect nx wr act.Commit)) { tx = None } in
            let l = (project b x).hart i in
            let there : Good s.count (with_flat (lay l.own.writes (words_at x.flat.mem b)) (at_hart i (commit (access_at b (next_of s F)) l) (project b x))) = goes_on s.count (project b x) _ (v.blocks b) (Commits i (access_at b (next_of s F)) o (ap (wait_at b) r.free) (ap tx_at e ∙ ap tx_by_cause free)) in
            subst (λ z. Good s.count (with_flat (words_at (mem_by view f.tx x.flat.mem act.Commit) b) (at_hart i z (project b x)))) (sym (same_local l _ _ _ _ (cleared_same (h.lines b)) refl))
            (subst (λ z. Good s.count (with_flat z (at_hart i (commit (access_at b (next_of s F)) l) (project b x)))) (sym (laid b)) there)
