-- What an entry does it does from each state that has the same memory and the same hart, and in which the others claim no more.
use Rattle.std.proofs.Common.{◌≡◌, ◌<◌, ◌/◌, ℕ, Bool, false, Option, Some, None, Ok, sym, ap, ◌∙◌, subst}
use Rattle.std.specs.Prelude.{is_some, IsOkAnd, IsSomeAnd}
use Rattle.words.specs.declared.entry.Entry.{Entry}
use Rattle.words.specs.declared.entry.Entry.TheVariants.{Retire, Abort, Trap, Refuse, Spill}
use Rattle.words.specs.declared.cause.AbortCause.{AbortCause}
use Rattle.words.specs.declared.cause.Cause.{Cause}
use Rattle.words.specs.declared.cause.Status.TheVariants.{Stopped}
use Rattle.table.specs.declared.effect.Effect.{Effect}
use Rattle.table.specs.declared.effect.Store.{Store}
use Rattle.table.specs.declared.effect.Act.{Act}
use Rattle.table.specs.declared.effect.Act.TheVariants as act
use Rattle.table.specs.Effects.{resolved}
use Rattle.table.specs.Program.{word_at}
use Rattle.flat.specs.Bytes.{put_at}
use Rattle.flat.specs.State.{Setting, Flat, FlatHart, Tx, flat_view, seen, has_read, has_written, MayAccess, IsAllowed}
use Rattle.flat.specs.Causes.{next_of, done_next, ◌>>=◌}
use Rattle.flat.specs.Effects.{retire_of, hart_after, mem_by}
use Rattle.flat.specs.Steps.{Carries, IsRunning, Retires, Aborts, Traps, MayAbort, hart_of, hart_aborted}
use Rattle.flat.proofs.Maps.{put_there, put_again}
use Rattle.flat.proofs.Entries.{retired_by, aborted_by, hart_retired, hart_back}

-- a state, with memory and hart i as in another
abbrev pub as_in : Flat → ℕ → Flat → Flat
as_in m i g = record m { mem = g.mem; hart = put_at i (g.hart i) m.hart }

-- at hart i the second state is as the first, and the others have touched no more there
pub record LooksLike (i : ℕ) (f m : Flat) : Type 0 where
  pub setting : m.setting ≡ f.setting
  pub mem : (a : ℕ) → m.mem a ≡ f.mem a
  pub hart : m.hart i ≡ f.hart i
  pub reads : (j b : ℕ) → has_read (f.hart j).tx b ≡ false → has_read (m.hart j).tx b ≡ false
  pub writes : (j b : ℕ) → has_written (f.hart j).tx b ≡ false → has_written (m.hart j).tx b ≡ false

-- an access that is allowed there is allowed here
may_too : (f m : Flat) (i b : ℕ) (s : Option Store) → LooksLike i f m → MayAccess f i b s → MayAccess m i b s
may_too f m i b None like may = λ j lt ne. like.writes j b (may j (subst (λ (s : Setting). j < s.count) like.setting lt) ne)
may_too f m i b (Some s) like may = λ j lt ne.
    let k = may j (subst (λ (s : Setting). j < s.count) like.setting lt) ne in
    (like.reads j b k.0, like.writes j b k.1)

-- what is allowed there is allowed here
pub allowed_too : (f m : Flat) (i : ℕ) (does : Act) → LooksLike i f m → IsAllowed f i does → IsAllowed m i does
allowed_too f m i (act.Memory x) like may = may_too f m i (x.addr / 32) x.store like may
allowed_too f m i does like may = tt

-- who runs there runs here
runs_too : (f m : Flat) (i : ℕ) → LooksLike i f m → IsRunning f i → IsRunning m i
runs_too f m i like r = record {
  hart = subst (λ (s : Setting). i < s.count) (sym like.setting) r.hart;
  runs = ap (λ (h : FlatHart). h.status) like.hart ∙ r.runs;
}

-- and does the same next
pub next_too : (f m : Flat) (i : ℕ) → LooksLike i f m → next_of m.setting (m.hart i) ≡ next_of f.setting (f.hart i)
next_too f m i like = ap (λ s. next_of s (m.hart i)) like.setting ∙ ap (next_of f.setting) like.hart

done_too : (f m : Flat) (i : ℕ) (b : Bool) → LooksLike i f m → done_next b m.setting (m.hart i) ≡ done_next b f.setting (f.hart i)
done_too f m i b like = ap (λ n. n >>= (λ e. Ok (resolved b e))) (next_too f m i like)

-- the state with memory and hart i as in another, by what these are
moved : (m g : Flat) (i : ℕ) (n : ℕ → ℕ) (h : FlatHart) → ((a : ℕ) → g.mem a ≡ n a) → g.hart i ≡ h → as_in m i g ≡ record m { mem = n; hart = put_at i h m.hart }
moved m g i n h mem hart = λ p. record { setting = m.setting; mem = λ a. mem a p; hart = λ j. put_at i (hart p) m.hart j }

-- an instruction
retires_too : (f m g : Flat) (i w : ℕ) (e : Entry) (d : Effect) → LooksLike i f m → Retires f i w d e g → Retires m i w d e (as_in m i g)
retires_too f m g i w e d like r = record {
  running = runs_too f m i like r.running;
  fetched = ap (λ (s : Setting). word_at s.segments (m.hart i).pc) like.setting ∙ ap (λ (h : FlatHart). word_at f.setting.segments h.pc) like.hart ∙ r.fetched;
  no_abort = r.no_abort;
  allowed = allowed_too f m i d.act like r.allowed;
  entry = r.entry ∙ by_mem (λ n h. retire_of (λ a. seen h.tx n a) i h w d);
  after = moved m g i (mem_by (flat_view m i) (m.hart i).tx m.mem d.act) (hart_after (flat_view m i) (m.hart i) d)
      (λ a. ap (λ (x : Flat). x.mem a) r.after ∙ by_mem (λ n h. mem_by (λ a. seen h.tx n a) h.tx n d.act a))
      (hart_retired f g i d r.after ∙ by_mem (λ n h. hart_after (λ a. seen h.tx n a) h d));
} where
  by_mem : {A : Type 0} (F : (ℕ → ℕ) → FlatHart → A) → F f.mem (f.hart i) ≡ F m.mem (m.hart i)
  by_mem F = λ p. F (λ a. sym (like.mem a) p) (sym like.hart p)

-- an abort
aborts_too : (f m g : Flat) (i : ℕ) (c : AbortCause) (t : Tx) → LooksLike i f m → Aborts f i c t g → Aborts m i c t (as_in m i g)
aborts_too f m g i c t like r = record {
  running = runs_too f m i like r.running;
  due = subst (λ h. MayAbort c h t (next_of m.setting h)) (sym like.hart) (subst (λ s. MayAbort c (f.hart i) t (next_of s (f.hart i))) (sym like.setting) r.due);
  after = moved m g i m.mem (hart_aborted (m.hart i) c t) (λ a. ap (λ (x : Flat). x.mem a) r.after ∙ sym (like.mem a))
      (hart_back f g i c t r.after ∙ ap (λ h. hart_aborted h c t) (sym like.hart));
}

-- a trap
traps_too : (f m g : Flat) (i : ℕ) (c : Cause) (p : ℕ) → LooksLike i f m → Traps f i c p g → Traps m i c p (as_in m i g)
traps_too f m g i c p like r = record {
  running = runs_too f m i like r.running;
  outside = ap (λ (h : FlatHart). h.tx) like.hart ∙ r.outside;
  place = r.place ∙ ap (λ (h : FlatHart). h.pc) (sym like.hart);
  caused = next_too f m i like ∙ r.caused;
  after = moved m g i m.mem (record (m.hart i) { status = Stopped c p }) (λ a. ap (λ (x : Flat). x.mem a) r.after ∙ sym (like.mem a))
      (ap (λ (x : Flat). x.hart i) r.after ∙ put_there i _ f.hart ∙ ap (λ (h : FlatHart). record h { status = Stopped c p }) (sym like.hart));
}

-- an entry that changes nothing
stays_too : (f m g : Flat) (i : ℕ) → LooksLike i f m → g ≡ f → as_in m i g ≡ m
stays_too f m g i like e =
    moved m g i m.mem (m.hart i) (λ a. ap (λ (x : Flat). x.mem a) e ∙ sym (like.mem a)) (ap (λ (x : Flat). x.hart i) e ∙ sym like.hart)
    ∙ (λ p. record m { hart = λ j. put_again i j m.hart p })

-- the entry from the second state
pub carries_too : (f m g : Flat) (e : Entry) → LooksLike (hart_of e) f m → Carries f e g → Carries m e (as_in m (hart_of e) g)
carries_too f m g (Retire i pc w x l s) like k =
    let r = retired_by f g i pc w x l s k in
    subst (λ n. IsOkAnd n (λ d. Retires m i w d (Retire i pc w x l s) (as_in m i g))) (sym (done_too f m i (is_some s) like ∙ r.1)) (retires_too f m g i w (Retire i pc w x l s) r.0 like r.2)
carries_too f m g (Abort i c) like k =
    let r = aborted_by f g i c k in
    subst (λ n. IsSomeAnd n (λ t. Aborts m i c t (as_in m i g))) (sym (ap (λ (h : FlatHart). h.tx) like.hart ∙ r.1)) (aborts_too f m g i c r.0 like r.2)
carries_too f m g (Trap i c p) like k = traps_too f m g i c p like k
carries_too f m g (Refuse i j b) like e = stays_too f m g i like e
carries_too f m g (Spill i b) like e = stays_too f m g i like e
