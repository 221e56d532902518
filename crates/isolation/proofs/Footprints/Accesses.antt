-- A hart in a transaction still holds what is said beside its footprint after each word that it retires.
use Rattle.std.proofs.Common.{◌≡◌, ◌≢◌, ◌≤◌, ◌+◌, ◌/◌, ◌==◌, ◌||◌, ◌&&◌, ℕ, Bool, true, false, List, [], ◌∷◌, Option, None, Some, Result, Ok, cond, length, not, refl, sym, ap, subst, ◌∙◌, inl, inr, arith}
use Rattle.std.specs.Prelude.{IsOkAnd, is_some, nat_le}
use Rattle.std.specs.Option.{option_map}
use Rattle.std.proofs.lemmas.Bool.Decides.{nat_tests}
use Rattle.words.specs.declared.cause.Cause.{Cause}
use Rattle.words.specs.declared.cause.AbortCause.{AbortCause}
use Rattle.words.specs.declared.marks.Marks.{Marks}
use Rattle.table.specs.declared.effect.Effect.{Effect}
use Rattle.table.specs.declared.effect.MemoryAct.{MemoryAct}
use Rattle.table.specs.declared.effect.Load.{Load}
use Rattle.table.specs.declared.effect.Store.{Store}
use Rattle.table.specs.declared.effect.Act.{Act}
use Rattle.flat.specs.Bytes.{put_at}
use Rattle.flat.specs.Effects.{access}
use Rattle.flat.proofs.LoadsOrStores.{LoadsOrStores}
use Rattle.flat.proofs.Maps.{put_there, put_elsewhere}
use Rattle.protocol.specs.Lines.{Line, line_used}
use Rattle.protocol.specs.Hart.{Transaction, LogRecord, Request}
use Rattle.protocol.specs.Core.{is_log_due, log_used}
use Rattle.isolation.specs.Footprints.{Footprint, with_load, with_store}
use Rattle.isolation.specs.Reasons.{Accesses}
use Rattle.isolation.proofs.Footprints.Holding.{marks_of, IsWanted, AllUsed, Counts, Inside}
use Rattle.isolation.proofs.Footprints.Lines.{at_one}

-- A word without an access

-- it wants no block
abbrev pub WantsNone : Act → Type 0
WantsNone a = (c : ℕ) → Accesses c a → ⊥

module _ (next after : Result Effect Cause) (lines : ℕ → Option Line) (reserved : Option ℕ) (request : Option Request) (p : Footprint) where
  used_only : (e : Effect) → next ≡ Ok e → WantsNone e.act → (c : ℕ) → IsWanted next p c → p.used c ≡ true
  used_only e k none c (inl u) = u
  used_only e k none c (inr w) = absurd (none c (subst (λ r. IsOkAnd r (λ e. Accesses c e.act)) k w))

  counts_again : (a : Option AbortCause) (log : List LogRecord) → a ≡ None → Counts next p a log → Counts after p a log
  counts_again None log e v = v
  counts_again (Some c) log e v = absurd (cc)

  pub retired : (e : Effect) → next ≡ Ok e → WantsNone e.act → (kept : Option ℕ) → ((c : ℕ) → kept ≡ Some c → reserved ≡ Some c) → (t u : Transaction) → t.aborting ≡ None → u.log ≡ t.log → u.aborting ≡ t.aborting
      → Inside next lines reserved request t p → Inside after lines kept None u p
  retired e k none kept fewer t u runs log aborting v = record {
    logged = v.logged;
    read = v.read;
    written = v.written;
    overflowed = λ c x. inl (used_only e k none c (v.overflowed c x));
    reserves = λ c x. v.reserves c (fewer c x);
    requests = λ q x. absurd (cc);
    log = subst (λ z. AllUsed p z) (sym log) v.log;
    counts = subst (λ z. Counts after p u.aborting z) (sym log) (subst (λ z. Counts after p z t.log) (sym aborting) (counts_again t.aborting t.log runs v.counts));
  }

-- An access

-- the footprint after it
module _ (m : MemoryAct) (old : ℕ) (put : Store → ℕ) (p : Footprint) where
  abbrev pub used_by : Option Load → Option Store → Footprint
  used_by load store = with_store (option_map (access m) (option_map put store)) (with_load (option_map (λ q. access m old) load) p)

  more : (c : ℕ) (u : ℕ → Bool) → u c ≡ true → put_at (m.addr / 32) true u c ≡ true
  more c u e = by (c == m.addr / 32)
    where
      by : (z : Bool) → cond z true (u c) ≡ true
      by true = refl
      by false = e

  pub stays_used : (load : Option Load) (store : Option Store) (c : ℕ) → p.used c ≡ true → (used_by load store).used c ≡ true
  stays_used None None c e = e
  stays_used None (Some s) c e = more c p.used e
  stays_used (Some l) None c e = more c p.used e
  stays_used (Some l) (Some s) c e = more c (put_at (m.addr / 32) true p.used) (more c p.used e)

  pub uses : (load : Option Load) (store : Option Store) → LoadsOrStores load store → (used_by load store).used (m.addr / 32) ≡ true
  uses None None x = absurd x
  uses None (Some s) x = put_there (m.addr / 32) true p.used
  uses (Some l) None x = put_there (m.addr / 32) true p.used
  uses (Some l) (Some s) x = put_there (m.addr / 32) true (put_at (m.addr / 32) true p.used)

  pub logged_off : (load : Option Load) (store : Option Store) (c : ℕ) → c ≢ m.addr / 32 → (used_by load store).logged c ≡ p.logged c
  logged_off None None c n = refl
  logged_off None (Some s) c n = put_elsewhere (m.addr / 32) c true p.logged n
  logged_off (Some l) None c n = refl
  logged_off (Some l) (Some s) c n = put_elsewhere (m.addr / 32) c true p.logged n

  pub logged_here : (load : Option Load) (store : Option Store) (w : Bool) → p.logged (m.addr / 32) ≡ w → (used_by load store).logged (m.addr / 32) ≡ (w || is_some store)
  logged_here None None true e = e
  logged_here None None false e = e
  logged_here (Some l) None true e = e
  logged_here (Some l) None false e = e
  logged_here None (Some s) true e = put_there (m.addr / 32) true p.logged
  logged_here None (Some s) false e = put_there (m.addr / 32) true p.logged
  logged_here (Some l) (Some s) true e = put_there (m.addr / 32) true p.logged
  logged_here (Some l) (Some s) false e = put_there (m.addr / 32) true p.logged

  abbrev records_by : Option Store → ℕ
  records_by None = p.records
  records_by (Some s) = cond (p.logged (m.addr / 32)) p.records (p.records + 1)

  records_is : (load : Option Load) (store : Option Store) → (used_by load store).records ≡ records_by store
  records_is None None = refl
  records_is None (Some s) = refl
  records_is (Some l) None = refl
  records_is (Some l) (Some s) = refl

  -- each record is of a store that needed one, and there is room for it
  counted : (store : Option Store) (w : Bool) (log : List LogRecord) (x : LogRecord) → p.logged (m.addr / 32) ≡ w → p.records ≡ length log → length log ≤ 113 → ((is_some store && not w) && nat_le 113 (length log)) ≡ false
      → (records_by store ≡ length (cond (is_some store && not w) (x ∷ log) log)) × (length (cond (is_some store && not w) (x ∷ log) log) ≤ 113)
  counted None w log x e n fits room = (n, fits)
  counted (Some s) true log x e n fits room = (ap (λ z. cond z p.records (p.records + 1)) e ∙ n, fits)
  counted (Some s) false log x e n fits room = (ap (λ z. cond z p.records (p.records + 1)) e ∙ omega (arith, n), grind (arith, nat_tests))

  pub all_used : (load : Option Load) (store : Option Store) (log : List LogRecord) → AllUsed p log → AllUsed (used_by load store) log
  all_used load store [] v = tt
  all_used load store (x ∷ log) v = (stays_used load store x.block v.0, all_used load store log v.1)

  logged_used : (load : Option Load) (store : Option Store) (w : Bool) (x : LogRecord) (log : List LogRecord) → x.block ≡ m.addr / 32 → AllUsed p log
      → AllUsed (used_by load store) (cond (is_some store && not w) (x ∷ log) log)
  logged_used load None w x log e v = all_used load None log v
  logged_used load (Some s) true x log e v = all_used load (Some s) log v
  logged_used load (Some s) false x log e v = (subst (λ z. (used_by load (Some s)).used z ≡ true) (sym e) (uses load (Some s) (stores load)), all_used load (Some s) log v)
    where
      stores : (load : Option Load) → LoadsOrStores load (Some s)
      stores None = tt
      stores (Some l) = tt

module _ (next after : Result Effect Cause) (lines : ℕ → Option Line) (reserved : Option ℕ) (request : Option Request) (p : Footprint) (m : MemoryAct) (old : ℕ) (put : Store → ℕ)
    (l : Line) (there : lines (m.addr / 32) ≡ Some l) (t : Transaction) (runs : t.aborting ≡ None) (v : Inside next lines reserved request t p) where
  abbrev b : ℕ
  b = m.addr / 32

  abbrev then : Footprint
  then = used_by m old put p m.load m.store

  abbrev put_lines : ℕ → Option Line
  put_lines = put_at b (Some (line_used true m l)) lines

  marked_here : marks_of (lines b) ≡ l.marks
  marked_here = ap marks_of there

  logged_now : p.logged b ≡ l.marks.written
  logged_now = v.logged b ∙ ap (λ (k : Marks). k.written) marked_here

  counts_now : (a : Option AbortCause) → a ≡ None → Counts next p a t.log → (p.records ≡ length t.log) × (length t.log ≤ 113)
  counts_now None e v = v
  counts_now (Some c) e v = absurd (cc)

  pub counts_running : (p.records ≡ length t.log) × (length t.log ≤ 113)
  counts_running = counts_now t.aborting runs v.counts

  counts_then : (is_log_due m l && nat_le 113 (length t.log)) ≡ false → (a : Option AbortCause) → a ≡ None → Counts after then a (log_used m l t.log)
  counts_then room None e =
      let n = counts_running in
      let k = counted m old put p m.store l.marks.written t.log (record { block = b; before = l.content }) logged_now n.0 n.1 room in
      (records_is m old put p m.load m.store ∙ k.0, k.1)
  counts_then room (Some c) e = absurd (cc)

  read_then : (c : ℕ) → LoadsOrStores m.load m.store → (marks_of (put_lines c)).read ≡ true → then.used c ≡ true
  read_then c some e = elim (at_one b (Some (line_used true m l)) lines c) [
    | inl here ↦ subst (λ z. then.used z ≡ true) (sym here.0) (uses m old put p m.load m.store some)
    | inr off ↦ stays_used m old put p m.load m.store c (v.read c (ap (λ (k : Marks). k.read) (sym off.1) ∙ e))
  ]

  written_then : (c : ℕ) → LoadsOrStores m.load m.store → (marks_of (put_lines c)).written ≡ true → then.used c ≡ true
  written_then c some e = elim (at_one b (Some (line_used true m l)) lines c) [
    | inl here ↦ subst (λ z. then.used z ≡ true) (sym here.0) (uses m old put p m.load m.store some)
    | inr off ↦ stays_used m old put p m.load m.store c (v.written c (ap (λ (k : Marks). k.written) (sym off.1) ∙ e))
  ]

  -- only this block is wanted
  wanted_then : (e : Effect) → next ≡ Ok e → ((c : ℕ) → Accesses c e.act → c ≡ b) → (c : ℕ) → c ≢ b → IsWanted next p c → then.used c ≡ true
  wanted_then e k only c n (inl u) = stays_used m old put p m.load m.store c u
  wanted_then e k only c n (inr w) = absurd (n (only c (subst (λ r. IsOkAnd r (λ e. Accesses c e.act)) k w)))

  overflowed_then : (e : Effect) → next ≡ Ok e → ((c : ℕ) → Accesses c e.act → c ≡ b) → LoadsOrStores m.load m.store → (c : ℕ) → (marks_of (put_lines c)).overflowed ≡ true → then.used c ≡ true
  overflowed_then e k only some c x = elim (at_one b (Some (line_used true m l)) lines c) [
    | inl here ↦ subst (λ z. then.used z ≡ true) (sym here.0) (uses m old put p m.load m.store some)
    | inr off ↦ wanted_then e k only c off.0 (v.overflowed c (ap (λ (k : Marks). k.overflowed) (sym off.1) ∙ x))
  ]

  pub accessed : (e : Effect) → next ≡ Ok e → ((c : ℕ) → Accesses c e.act → c ≡ b) → LoadsOrStores m.load m.store → (is_log_due m l && nat_le 113 (length t.log)) ≡ false
      → (kept : Option ℕ) → ((c : ℕ) → kept ≡ Some c → then.used c ≡ true) → Inside after put_lines kept None (record t { log = log_used m l t.log }) then
  accessed e k only some room kept known = record {
    logged = λ c. elim (at_one b (Some (line_used true m l)) lines c) [
      | inl here ↦ ap then.logged here.0 ∙ logged_here m old put p m.load m.store l.marks.written logged_now ∙ ap (λ (k : Marks). k.written) (sym here.1)
      | inr off ↦ logged_off m old put p m.load m.store c off.0 ∙ v.logged c ∙ ap (λ (k : Marks). k.written) (sym off.1)
    ];
    read = λ c. read_then c some;
    written = λ c. written_then c some;
    overflowed = λ c x. inl (overflowed_then e k only some c x);
    reserves = known;
    requests = λ q x. absurd (cc);
    log = logged_used m old put p m.load m.store l.marks.written (record { block = b; before = l.content }) t.log refl v.log;
    counts = counts_then room t.aborting runs;
  }
