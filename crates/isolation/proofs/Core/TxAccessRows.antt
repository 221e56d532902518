-- A hart in a transaction retires an access.
use Rattle.std.proofs.Common.{◌≡◌, ◌≢◌, ◌/◌, ℕ, List, true, false, not, ◌||◌, ◌&&◌, Option, None, Some, length, refl, sym, ap, subst, ◌∙◌}
use Rattle.std.specs.Prelude.{is_some, nat_le}
use Rattle.std.specs.Option.{option_map}
use Rattle.std.proofs.lemmas.Bool.{or_right}
use Rattle.std.proofs.Math.Bool.{or-false}
use Rattle.words.specs.declared.message.Kind.{Kind}
use Rattle.table.specs.declared.effect.Effect.{Effect}
use Rattle.table.specs.declared.effect.Act.TheVariants as act
use Rattle.table.specs.declared.effect.Load.{Load}
use Rattle.table.specs.declared.effect.Store.{Store}
use Rattle.table.specs.declared.effect.MemoryAct.{MemoryAct}
use Rattle.flat.specs.State.{Setting, FlatHart, Tx as FlatTx, flat_view}
use Rattle.flat.specs.Causes.{next_of}
use Rattle.flat.specs.Effects.{mem_by, tx_by, hart_after}
use Rattle.flat.specs.Reasons.{Past}
use Rattle.flat.proofs.Maps.{put_there, put_elsewhere}
use Rattle.words.specs.declared.marks.Marks.{Marks}
use Rattle.protocol.specs.Lines.{Line, byte_in, words_at, words_put, state_put, line_used}
use Rattle.protocol.specs.Hart.{Hart, Transaction, LogRecord, with_line}
use Rattle.protocol.specs.Core.{retire_row, word_of, is_log_due, tx_used}
use Rattle.isolation.proofs.OneBlock.Model.State.{Copy, Has, Aborting, Own, Local, at_hart, lay}
use Rattle.isolation.proofs.OneBlock.Model.Core.{retire}
use Rattle.isolation.proofs.OneBlock.Model.Step.{with_flat, with_own, Retires}
use Rattle.isolation.proofs.OneBlock.Invariant.Each.{Good}
use Rattle.isolation.proofs.OneBlock.Facts.Runs.{goes_on}
use Rattle.isolation.proofs.OneBlock.Uses.AccessSteps.{Suffices, used, flat_used, used_good}
use Rattle.isolation.proofs.Machine.World.{World, copy_of, tx_at, writes_at, own_at, access_at, local_at, project}
use Rattle.isolation.proofs.Machine.Invariant.{InPast}
use Rattle.isolation.proofs.Machine.Transactions.{Inside, inside, in_past, due_none, not_aborting}
use Rattle.isolation.proofs.Words.Bytes.{write_same, retire_same}
use Rattle.isolation.proofs.Words.Laying.{WritesBytes, WritesWithin, store_lays, store_elsewhere}
use Rattle.isolation.proofs.Core.HartResults.{at_block, Made, same_local}
use Rattle.isolation.proofs.Core.RetireRows.{acts_at, made_retire, effect}
use Rattle.isolation.proofs.Core.Accesses.{Access, number, changes, aligned, same_bytes, allowed, suffices, line_is, done_by}
use Rattle.isolation.proofs.Core.TxAccessTables.{log_with, images_here, images_off, tx_with, read_off, write_off, tx_same}

module _ (x : World) (i : ℕ) (a : Access x i) (kept : Option ℕ) (t : Transaction) (et : (x.machine.harts i).tx ≡ Some t) (room : (is_log_due a.does a.line && nat_le 113 (length t.log)) ≡ false) where
  abbrev s : Setting
  s = x.machine.setting

  abbrev h : Hart
  h = x.machine.harts i

  abbrev f : FlatHart
  f = x.flat.hart i

  abbrev p : Past
  p = x.history.past i

  abbrev view : ℕ → ℕ
  view = flat_view x.flat i

  abbrev word : ℕ
  word = word_of s h

  abbrev m : MemoryAct
  m = a.does

  abbrev e : Effect
  e = effect a.next a.write (act.Memory m)

  abbrev b : ℕ
  b = m.addr / 32

  abbrev l : Line
  l = a.line

  free : t.aborting ≡ None
  free = not_aborting t (subst (λ z. tx_at z ≢ Aborting) et a.ready.acts)

  d : Inside f t
  d = inside s h f p t (a.inv.harts i) et

  -- the log after it
  abbrev logged : Option Store → List LogRecord
  logged z = log_with b l.content (is_some z && not l.marks.written) t.log

  abbrev later : FlatHart
  later = record (hart_after view f e) { tx = Some (tx_with view m d.tx m.load m.store) }

  abbrev used_hart : Hart
  used_hart = with_line b (Some (line_used true m l)) (record h { tx = Some (tx_used m l t); reserved = kept })

  abbrev turned : ℕ → Local
  turned c = local_at s c i (retire_row i (byte_in l.content) word e used_hart).hart later (record p { was_refused = false }) x.mail

  abbrev was : ℕ → Local
  was c = (project c x).hart i

  abbrev next_access : ℕ → Option Kind
  next_access c = access_at c (next_of s later)

  -- the hart's own fields at a block, with this transaction, log and flat transaction
  abbrev own_with : ℕ → List LogRecord → FlatTx → Own
  own_with c log u = own_at s c (record h { tx = Some (record t { aborting = None; log = log }) }) (record f { tx = Some u }) p

  running : h.tx ≡ Some (record t { aborting = None })
  running = et ∙ ap (λ z. Some (record t { aborting = z })) free

  own_was : (c : ℕ) → (was c).own ≡ own_with c t.log d.tx
  own_was c = λ k. own_at s c (record h { tx = running k }) (record f { tx = d.is k }) p

  own_turned : (c : ℕ) → (turned c).own ≡ retire (next_access c) (own_with c (logged m.store) (tx_with view m d.tx m.load m.store))
  own_turned c = λ k. retire (next_access c) (own_at s c (record h { tx = Some (record t { aborting = free k; log = logged m.store }) }) (record f { tx = Some (tx_with view m d.tx m.load m.store) }) p)

  -- at the block

  abbrev known_local : Local
  known_local = record (was b) { line = Has l.state l.content l.marks; own = own_with b t.log d.tx }

  known_is : was b ≡ known_local
  known_is = λ k. record (was b) { line = copy_of (a.has k); own = own_was b k }

  abbrev marks_with : Option Load → Option Store → Marks
  marks_with y z = record l.marks { read = l.marks.read || is_some y; written = l.marks.written || is_some z }

  abbrev line_with : Option Load → Option Store → Copy
  line_with y z = Has (state_put z l.state) (words_put m (option_map (number view m) z) l.content) (marks_with y z)

  bytes : WritesBytes (Some d.tx)
  bytes = subst WritesBytes d.is (a.inv.bytes.writes i)

  within : WritesWithin (Some d.tx)
  within = subst WritesWithin d.is (a.inv.bytes.within i)

  lays : (y : Option Load) (q : Store) → writes_at b (Some (tx_with view m d.tx y (Some q))) ≡ Some (λ k. words_put m (Some (number view m q)) (lay (writes_at b (Some d.tx)) k))
  lays y q = store_lays d.tx (record m { load = y; store = Some q }) (number view m q) bytes within

  table : (y : Option Load) (z : Option Store) → used (is_some y) (changes view m z) (next_access b) known_local ≡ record known_local { line = line_with y z; own = retire (next_access b) (own_with b (logged z) (tx_with view m d.tx y z)) }
  table None None = λ k. record known_local { line = Has l.state l.content (record l.marks { read = sym (or-false l.marks.read) k; written = sym (or-false l.marks.written) k }); own = retire (next_access b) known_local.own }
  table (Some y) None = λ k. record known_local { line = Has l.state l.content (record l.marks { read = sym (or_right l.marks.read true refl) k; written = sym (or-false l.marks.written) k }); own = record (retire (next_access b) known_local.own) { in_r = sym (put_there b true d.tx.read_set) k } }
  table None (Some q) = λ k. record known_local {
    line = Has (state_put (Some q) l.state) (words_put m (Some (number view m q)) l.content) (record l.marks { read = sym (or-false l.marks.read) k; written = sym (or_right l.marks.written true refl) k });
    own = record (retire (next_access b) known_local.own) { images = sym (images_here b l.content l.marks.written t.log) k; in_w = sym (put_there b true d.tx.write_set) k; writes = sym (lays None q) k };
  }
  table (Some y) (Some q) = λ k. record known_local {
    line = Has (state_put (Some q) l.state) (words_put m (Some (number view m q)) l.content) (record l.marks { read = sym (or_right l.marks.read true refl) k; written = sym (or_right l.marks.written true refl) k });
    own = record (retire (next_access b) known_local.own) { images = sym (images_here b l.content l.marks.written t.log) k; in_r = sym (put_there b true d.tx.read_set) k; in_w = sym (put_there b true d.tx.write_set) k; writes = sym (lays (Some y) q) k };
  }

  line_here : copy_of (used_hart.lines b) ≡ line_with m.load m.store
  line_here = ap copy_of (put_there b (Some (line_used true m l)) h.lines) ∙ ap (λ z. copy_of (Some z)) (line_is x i a true)

  turned_is : turned b ≡ used (is_some m.load) (changes view m m.store) (next_access b) (was b)
  turned_is = same_local (was b) _ _ _ _ line_here (own_turned b) ∙ sym (table m.load m.store) ∙ ap (used (is_some m.load) (changes view m m.store) (next_access b)) (sym known_is)

  flat_by : (z : Option Store) → flat_used (own_with b t.log d.tx).tx (changes view m z) (words_at x.flat.mem b) ≡ words_at x.flat.mem b
  flat_by None = refl
  flat_by (Some q) = refl

  here : Good s.count (at_hart i (turned b) (project b x))
  here = subst (λ z. Good s.count (at_hart i z (project b x))) (sym turned_is)
      (subst (λ z. Good s.count (with_flat z (at_hart i (used (is_some m.load) (changes view m m.store) (next_access b) (was b)) (project b x)))) (ap (λ (w : Own). flat_used w.tx (changes view m m.store) (words_at x.flat.mem b)) (own_was b) ∙ flat_by m.store)
      (used_good s.count (project b x) i (is_some m.load) (changes view m m.store) (next_access b) (a.inv.blocks b) a.is_hart (acts_at x i b a.ready)
      (subst (λ z. Suffices (is_some m.load) (changes view m m.store) (copy_of z)) (sym a.has) (suffices x i a))))

  -- elsewhere

  lays_off : (c : ℕ) → c ≢ b → writes_at c (Some (tx_with view m d.tx m.load m.store)) ≡ writes_at c (Some d.tx)
  lays_off c n = store_elsewhere d.tx m (option_map (number view m) m.store) c (aligned x i a) n

  own_off : (c : ℕ) → c ≢ b → own_with c (logged m.store) (tx_with view m d.tx m.load m.store) ≡ record (own_with c t.log d.tx) { access = access_at c (next_of s (record f { tx = Some (tx_with view m d.tx m.load m.store) })) }
  own_off c n = λ k. record (own_with c t.log d.tx) {
    images = images_off b c l.content (is_some m.store && not l.marks.written) t.log n k;
    in_r = read_off view m d.tx c n m.load m.store k;
    in_w = write_off view m d.tx c n m.load m.store k;
    writes = lays_off c n k;
    access = access_at c (next_of s (record f { tx = Some (tx_with view m d.tx m.load m.store) }));
  }

  off : (c : ℕ) → c ≢ b → Good s.count (at_hart i (turned c) (project c x))
  off c n = subst (λ z. Good s.count (at_hart i z (project c x))) (sym still) (goes_on s.count (project c x) _ (a.inv.blocks c) (Retires i (next_access c) a.is_hart (acts_at x i c a.ready)))
    where
      line_off : copy_of (used_hart.lines c) ≡ copy_of (h.lines c)
      line_off = ap copy_of (put_elsewhere b c (Some (line_used true m l)) h.lines n)

      still : turned c ≡ with_own (retire (next_access c) (was c).own) (was c)
      still = same_local (was c) _ _ _ _ line_off (own_turned c ∙ ap (retire (next_access c)) (own_off c n) ∙ ap (retire (next_access c)) (sym (own_was c)))

  -- it retires, and the transaction has what it stores
  pub made_inside : Made x i (retire_row i (byte_in l.content) word e used_hart)
  made_inside =
      let w : InPast t h.kept_stamp p = in_past s h f p t (a.inv.harts i) et in
      made_retire x a.inv i a.is_hart e (byte_in l.content) used_hart false (Some (tx_with view m d.tx m.load m.store)) x.flat.mem (record p { was_refused = false }) (record {
        next = done_by x i a (byte_in l.content);
        no_abort = refl;
        allowed = allowed x i a;
        same_pc = refl;
        same_regs = refl;
        same_output = refl;
        write = write_same (byte_in l.content) view m (aligned x i a) (same_bytes x i a) e refl;
        entry = retire_same (byte_in l.content) view m (aligned x i a) (same_bytes x i a) i f word e refl;
        stamp_is = refl;
        tx_is = ap (λ z. tx_by view f z (act.Memory m)) d.is;
        mem_is = ap (λ z. mem_by view z x.flat.mem (act.Memory m)) d.is;
        past_is = refl;
        has_tx = tx_same view m l t d.tx d.same m.load m.store room;
        due = due_none s t.aborting later free;
        has_past = record { depth = w.depth; inside = w.inside; stamp = w.stamp; ran = w.ran; none_kept = w.none_kept };
        blocks = λ c. at_block (λ c. Good s.count (at_hart i (turned c) (project c x))) b c here (off c);
      }) a.ready.runs
