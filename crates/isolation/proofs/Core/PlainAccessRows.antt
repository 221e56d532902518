-- A hart outside transactions retires an access.
use Rattle.std.proofs.Common.{◌≡◌, ◌≢◌, ◌/◌, ℕ, Bool, true, false, Option, None, Some, refl, sym, ap, subst, ◌∙◌}
use Rattle.std.specs.Prelude.{is_some}
use Rattle.std.specs.Option.{option_map}
use Rattle.words.specs.declared.message.Kind.{Kind}
use Rattle.table.specs.declared.effect.Effect.{Effect}
use Rattle.table.specs.declared.effect.Act.TheVariants as act
use Rattle.table.specs.declared.effect.Store.{Store}
use Rattle.table.specs.declared.effect.MemoryAct.{MemoryAct}
use Rattle.flat.specs.State.{Setting, FlatHart, flat_view}
use Rattle.flat.specs.Causes.{next_of}
use Rattle.flat.specs.Effects.{put_by, put_of, mem_put, mem_by, tx_by, hart_after}
use Rattle.flat.specs.Reasons.{Past}
use Rattle.flat.proofs.Maps.{put_there, put_elsewhere}
use Rattle.protocol.specs.Lines.{Line, byte_in, words_at, words_put, state_put, line_used}
use Rattle.protocol.specs.Hart.{Hart, with_line}
use Rattle.protocol.specs.Core.{retire_row, word_of}
use Rattle.isolation.proofs.OneBlock.Model.State.{Has, Outside, Local, at_hart}
use Rattle.isolation.proofs.OneBlock.Model.Core.{retire}
use Rattle.isolation.proofs.OneBlock.Model.Step.{with_flat, with_own, Retires}
use Rattle.isolation.proofs.OneBlock.Invariant.Each.{Good}
use Rattle.isolation.proofs.OneBlock.Facts.Runs.{goes_on}
use Rattle.isolation.proofs.OneBlock.Uses.AccessSteps.{Suffices, used, flat_used, used_good}
use Rattle.isolation.proofs.Machine.World.{World, copy_of, tx_at, access_at, local_at, project}
use Rattle.isolation.proofs.Machine.Transactions.{outside, due_free, past_refused}
use Rattle.isolation.proofs.Words.Bytes.{write_same, retire_same, words_stored, words_elsewhere}
use Rattle.isolation.proofs.Core.HartResults.{at_block, Made, same_local}
use Rattle.isolation.proofs.Core.RetireRows.{acts_at, made_retire, effect}
use Rattle.isolation.proofs.Core.Accesses.{Access, changes, aligned, same_bytes, allowed, suffices, line_is, done_by}

module _ (x : World) (i : ℕ) (a : Access x i) (kept : Option ℕ) (none : (x.machine.harts i).tx ≡ None) where
  abbrev s : Setting
  s = x.machine.setting

  abbrev h : Hart
  h = x.machine.harts i

  abbrev f : FlatHart
  f = x.flat.hart i

  abbrev p : Past
  p = x.history.past i

  abbrev view : ℕ → ℕ
  view = flat_view x.flat i

  abbrev word : ℕ
  word = word_of s h

  abbrev m : MemoryAct
  m = a.does

  abbrev e : Effect
  e = effect a.next a.write (act.Memory m)

  abbrev b : ℕ
  b = m.addr / 32

  abbrev l : Line
  l = a.line

  no_tx : f.tx ≡ None
  no_tx = outside s h f p (a.inv.harts i) none

  abbrev later : FlatHart
  later = record (hart_after view f e) { tx = f.tx }

  abbrev mem : ℕ → ℕ
  mem = mem_put x.flat.mem m (put_by view m)

  abbrev used_hart : Hart
  used_hart = with_line b (Some (line_used false m l)) (record h { reserved = kept })

  abbrev turned : ℕ → Local
  turned c = local_at s c i (retire_row i (byte_in l.content) word e used_hart).hart later (record p { was_refused = false }) x.mail

  abbrev was : ℕ → Local
  was c = (project c x).hart i

  abbrev next_access : ℕ → Option Kind
  next_access c = access_at c (next_of s later)

  -- the block's copy as it is, and outside a transaction
  abbrev known_local : Local
  known_local = record (was b) { line = Has l.state l.content l.marks; own = record (was b).own { tx = Outside } }

  known_is : was b ≡ known_local
  known_is = λ k. record (was b) { line = copy_of (a.has k); own = record (was b).own { tx = tx_at (none k) } }

  table : (y : Bool) (z : Option Store) → used y (changes view m z) (next_access b) known_local ≡ record known_local { line = Has (state_put z l.state) (words_put m (option_map (put_of view m) z) l.content) l.marks; own = retire (next_access b) known_local.own }
  table true None = refl
  table false None = refl
  table true (Some q) = refl
  table false (Some q) = refl

  line_here : copy_of (used_hart.lines b) ≡ Has (state_put m.store l.state) (words_put m (put_by view m) l.content) l.marks
  line_here = ap copy_of (put_there b (Some (line_used false m l)) h.lines) ∙ ap (λ z. copy_of (Some z)) (line_is x i a false)

  turned_is : turned b ≡ used (is_some m.load) (changes view m m.store) (next_access b) (was b)
  turned_is = same_local (was b) _ _ _ _ line_here (λ k. retire (next_access b) (record (was b).own { tx = tx_at (none k) })) ∙ sym (table (is_some m.load) m.store) ∙ ap (used (is_some m.load) (changes view m m.store) (next_access b)) (sym known_is)

  flat_by : (z : Option Store) → flat_used Outside (changes view m z) (words_at x.flat.mem b) ≡ words_at (mem_put x.flat.mem m (option_map (put_of view m) z)) b
  flat_by None = refl
  flat_by (Some q) = words_stored x.flat.mem m (put_of view m q) a.inv.bytes.mem

  flat_is : flat_used (was b).own.tx (changes view m m.store) (words_at x.flat.mem b) ≡ words_at mem b
  flat_is = ap (λ z. flat_used (tx_at z) (changes view m m.store) (words_at x.flat.mem b)) none ∙ flat_by m.store

  here : Good s.count (with_flat (words_at mem b) (at_hart i (turned b) (project b x)))
  here = subst (λ z. Good s.count (with_flat (words_at mem b) (at_hart i z (project b x)))) (sym turned_is)
      (subst (λ z. Good s.count (with_flat z (at_hart i (used (is_some m.load) (changes view m m.store) (next_access b) (was b)) (project b x)))) flat_is
      (used_good s.count (project b x) i (is_some m.load) (changes view m m.store) (next_access b) (a.inv.blocks b) a.is_hart (acts_at x i b a.ready)
      (subst (λ z. Suffices (is_some m.load) (changes view m m.store) (copy_of z)) (sym a.has) (suffices x i a))))

  off : (c : ℕ) → c ≢ b → Good s.count (with_flat (words_at mem c) (at_hart i (turned c) (project c x)))
  off c n = subst (λ z. Good s.count (with_flat z (at_hart i (turned c) (project c x)))) (sym (words_elsewhere x.flat.mem m (put_by view m) c (aligned x i a) n))
      (subst (λ z. Good s.count (at_hart i z (project c x))) (sym still) (goes_on s.count (project c x) _ (a.inv.blocks c) (Retires i (next_access c) a.is_hart (acts_at x i c a.ready))))
    where
      still : turned c ≡ with_own (retire (next_access c) (was c).own) (was c)
      still = ap (λ z. record (was c) { line = copy_of z; own = retire (next_access c) (was c).own }) (put_elsewhere b c (Some (line_used false m l)) h.lines n)

  -- it retires, and memory has what it stores
  pub made_plain : Made x i (retire_row i (byte_in l.content) word e used_hart)
  made_plain = made_retire x a.inv i a.is_hart e (byte_in l.content) used_hart false f.tx mem (record p { was_refused = false }) (record {
    next = done_by x i a (byte_in l.content);
    no_abort = refl;
    allowed = allowed x i a;
    same_pc = refl;
    same_regs = refl;
    same_output = refl;
    write = write_same (byte_in l.content) view m (aligned x i a) (same_bytes x i a) e refl;
    entry = retire_same (byte_in l.content) view m (aligned x i a) (same_bytes x i a) i f word e refl;
    stamp_is = refl;
    tx_is = ap (λ z. tx_by view f z (act.Memory m)) no_tx ∙ sym no_tx;
    mem_is = ap (λ z. mem_by view z x.flat.mem (act.Memory m)) no_tx;
    past_is = refl;
    has_tx = (a.inv.harts i).tx;
    due = due_free s h.tx _ a.ready.acts;
    has_past = past_refused h.tx h.kept_stamp p p.refused_earlier false (a.inv.harts i).past;
    blocks = λ c. at_block (λ c. Good s.count (with_flat (words_at mem c) (at_hart i (turned c) (project c x)))) b c here (off c);
  }) a.ready.runs
