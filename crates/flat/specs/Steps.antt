-- Which entries carry a flat state to which.
use Rattle.std.specs.Prelude.{ℕ, ◌≡◌, ◌<◌, ◌≤◌, Bool, true, false, is_some, Option, Some, None, Result, Err, List, [], ◌∷◌, IsOkAnd, IsSomeAnd}
use Rattle.words.specs.declared.entry.Entry.{Entry}
use Rattle.words.specs.declared.entry.Entry.TheVariants.{Retire, Abort, Trap, Refuse, Spill}
use Rattle.words.specs.declared.cause.Cause.{Cause}
use Rattle.words.specs.declared.cause.AbortCause.{AbortCause}
use Rattle.words.specs.declared.cause.AbortCause.TheVariants.{Asked, Conflict, LogFull, Trapped}
use Rattle.words.specs.declared.cause.Status.{Status}
use Rattle.words.specs.declared.cause.Status.TheVariants.{Running, Stopped}
use Rattle.words.specs.Limits.{log_records}
use Rattle.table.specs.declared.effect.Effect.{Effect}
use Rattle.table.specs.declared.effect.Act.{Act}
use Rattle.table.specs.declared.effect.Act.TheVariants as act
use Rattle.table.specs.Program.{word_at}
use Rattle.flat.specs.Bytes.{put_at}
use Rattle.flat.specs.State.{Flat, FlatHart, Tx, flat_view, IsAllowed}
use Rattle.flat.specs.Causes.{next_of, done_next}
use Rattle.flat.specs.Effects.{retire_of, hart_after, mem_by}

-- i is a hart, and it runs
pub record IsRunning (f : Flat) (i : ℕ) : Type 0 where
  pub hart : i < f.setting.count
  pub runs : (f.hart i).status ≡ Running

-- the flat state after hart i has retired an effect
abbrev pub retired : Flat → ℕ → Effect → Flat
retired f i e = record f {
  mem = mem_by (flat_view f i) (f.hart i).tx f.mem e.act;
  hart = put_at i (hart_after (flat_view f i) (f.hart i) e) f.hart;
}

-- whether an act rolls the transaction back
abbrev pub is_abort : Act → Bool
is_abort act.Abort = true
is_abort _ = false

-- hart i retires: its word has no cause and is no TABORT, its access is allowed, and entry and state are those of its effect
pub record Retires (f : Flat) (i word : ℕ) (does : Effect) (e : Entry) (g : Flat) : Type 0 where
  pub running : IsRunning f i
  pub fetched : word_at f.setting.segments (f.hart i).pc ≡ Some word
  pub no_abort : is_abort does.act ≡ false
  pub allowed : IsAllowed f i does.act
  pub entry : e ≡ retire_of (flat_view f i) i (f.hart i) word does
  pub after : g ≡ retired f i does

abbrev pub is_store : Act → Bool
is_store (act.Memory m) = is_some m.store
is_store (act.Conditional rd m) = is_some m.store
is_store _ = false

-- what has to hold for an abort of this cause: the word is TABORT; the word is a store, and the transaction has retired at least as
-- many as an undo log holds; the word has this cause, at this pc. A conflict may come at any moment: its reason lies in the entries before
abbrev pub MayAbort : AbortCause → FlatHart → Tx → Result Effect Cause → Type 0
MayAbort Asked h t next = IsOkAnd next (λ e. is_abort e.act ≡ true)
MayAbort Conflict h t next = Unit {0}
MayAbort LogFull h t next = IsOkAnd next (λ e. is_store e.act ≡ true) × (log_records ≤ t.stores)
MayAbort (Trapped c p) h t next = (p ≡ h.pc) × (next ≡ Err c)

-- an abort for a cause of the hart's own word also stops the hart
abbrev pub status_for : AbortCause → Status
status_for (Trapped c p) = Stopped c p
status_for _ = Running

-- a hart whose transaction was rolled back: registers and pc as the begin kept them, and no transaction
abbrev pub hart_aborted : FlatHart → AbortCause → Tx → FlatHart
hart_aborted h cause t = record h { regs = t.checkpoint; pc = t.abort_pc; status = status_for cause; tx = None }

-- the flat state after hart i's transaction was rolled back: memory stays
abbrev pub aborted : Flat → ℕ → AbortCause → Tx → Flat
aborted f i cause t = record f { hart = put_at i (hart_aborted (f.hart i) cause t) f.hart }

-- hart i's transaction is rolled back
pub record Aborts (f : Flat) (i : ℕ) (cause : AbortCause) (t : Tx) (g : Flat) : Type 0 where
  pub running : IsRunning f i
  pub due : MayAbort cause (f.hart i) t (next_of f.setting (f.hart i))
  pub after : g ≡ aborted f i cause t

-- the flat state after hart i was stopped
abbrev pub stopped : Flat → ℕ → Cause → ℕ → Flat
stopped f i c p = record f { hart = put_at i (record (f.hart i) { status = Stopped c p }) f.hart }

-- hart i has no transaction, and is stopped for the cause of its word
pub record Traps (f : Flat) (i : ℕ) (c : Cause) (p : ℕ) (g : Flat) : Type 0 where
  pub running : IsRunning f i
  pub outside : (f.hart i).tx ≡ None
  pub place : p ≡ (f.hart i).pc
  pub caused : next_of f.setting (f.hart i) ≡ Err c
  pub after : g ≡ stopped f i c p

-- an entry carries one flat state to another. A conditional store has succeeded if the entry has a store; it may fail at any time, and what it needs to succeed lies
-- in the entries before
abbrev pub Carries : Flat → Entry → Flat → Type 0
Carries f (Retire i pc word write load store) g =
    IsOkAnd (done_next (is_some store) f.setting (f.hart i)) (λ does. Retires f i word does (Retire i pc word write load store) g)
Carries f (Abort i cause) g = IsSomeAnd (f.hart i).tx (λ t. Aborts f i cause t g)
Carries f (Trap i c p) g = Traps f i c p g
Carries f (Refuse i j b) g = g ≡ f
Carries f (Spill i b) g = g ≡ f

-- a step that may show nothing carries as its entry does, or leaves the state
abbrev pub CarriesSome : Flat → Option Entry → Flat → Type 0
CarriesSome f None g = g ≡ f
CarriesSome f (Some e) g = Carries f e g

-- the entries, one after another, carry one flat state to another
abbrev pub IsRun : Flat → List Entry → Flat → Type 0
IsRun f [] g = g ≡ f
IsRun f (e ∷ es) g = (h : Flat) × Carries f e h × IsRun h es g

-- the hart that an entry speaks of: for a refusal the one that refuses
abbrev pub hart_of : Entry → ℕ
hart_of (Retire i pc word write load store) = i
hart_of (Abort i cause) = i
hart_of (Trap i c p) = i
hart_of (Refuse i j b) = i
hart_of (Spill i b) = i
