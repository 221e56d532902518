-- What is said of one hart beside its footprint, and that the rows which only change its transaction's bits keep it.
use Rattle.std.proofs.Common.{◌≡◌, ◌≤◌, ◌⊎◌, ℕ, Bool, true, false, List, [], ◌∷◌, Option, None, Some, Result, cond, length, refl, ap, subst}
use Rattle.std.specs.Prelude.{◌&&◌, IsSome, IsOkAnd}
use Rattle.std.specs.Option.{option_map}
use Rattle.std.proofs.lemmas.Option.{same_Some}
use Rattle.words.specs.declared.cause.Cause.{Cause}
use Rattle.words.specs.declared.cause.AbortCause.{AbortCause}
use Rattle.words.specs.declared.cause.AbortCause.TheVariants.{Asked, Conflict, LogFull, Trapped}
use Rattle.words.specs.declared.entry.Entry.{Entry}
use Rattle.words.specs.declared.entry.Entry.TheVariants.{Retire, Abort, Trap, Refuse, Spill}
use Rattle.words.specs.declared.marks.Marks.{Marks}
use Rattle.words.specs.declared.stamp.Stamp.{Stamp}
use Rattle.words.specs.Marks.{no_marks}
use Rattle.table.specs.declared.effect.Effect.{Effect}
use Rattle.flat.specs.State.{Setting, Tx}
use Rattle.flat.specs.Causes.{next_of}
use Rattle.protocol.specs.Lines.{Line}
use Rattle.protocol.specs.Hart.{Hart, Transaction, LogRecord, Request, HartResult, flat_tx, flat_hart}
use Rattle.protocol.specs.Evict.{tx_spilled}
use Rattle.protocol.specs.Requests.{gives_way}
use Rattle.protocol.specs.HartMessages.{tx_refusing}
use Rattle.isolation.specs.Footprints.{Footprint, with_retired, with_spill}
use Rattle.isolation.specs.Reasons.{Accesses, NeedsRecord}

-- One hart beside its footprint

-- the marks of a line, if there is one
abbrev pub marks_of : Option Line → Marks
marks_of None = no_marks
marks_of (Some l) = l.marks

-- a block that the transaction has used, or that the next word accesses
abbrev pub IsWanted : Result Effect Cause → Footprint → ℕ → Type 0
IsWanted next p b = (p.used b ≡ true) ⊎ IsOkAnd next (λ e. Accesses b e.act)

-- why an abort of this cause may end
abbrev pub MayEnd : Result Effect Cause → Footprint → AbortCause → Type 0
MayEnd next p Asked = Unit {0}
MayEnd next p Conflict = Unit {0}
MayEnd next p LogFull = (p.records ≡ 113) × IsOkAnd next (λ e. NeedsRecord p e.act)
MayEnd next p (Trapped c q) = Unit {0}

-- each record came with a store that needed one, unless records are being undone
abbrev pub Counts : Result Effect Cause → Footprint → Option AbortCause → List LogRecord → Type 0
Counts next p None log = (p.records ≡ length log) × (length log ≤ 113)
Counts next p (Some cause) log = MayEnd next p cause

-- the records of a log are of blocks of the footprint
abbrev pub AllUsed : Footprint → List LogRecord → Type 0
AllUsed p [] = Unit {0}
AllUsed p (x ∷ log) = (p.used x.block ≡ true) × AllUsed p log

-- a transaction's marks, records, reservation and request are of blocks of its footprint, or of the one that it wants next
pub record Inside (next : Result Effect Cause) (lines : ℕ → Option Line) (reserved : Option ℕ) (request : Option Request) (t : Transaction) (p : Footprint) : Type 0 where
  pub logged : (b : ℕ) → p.logged b ≡ (marks_of (lines b)).written
  pub read : (b : ℕ) → (marks_of (lines b)).read ≡ true → p.used b ≡ true
  pub written : (b : ℕ) → (marks_of (lines b)).written ≡ true → p.used b ≡ true
  pub overflowed : (b : ℕ) → (marks_of (lines b)).overflowed ≡ true → IsWanted next p b
  pub reserves : (b : ℕ) → reserved ≡ Some b → p.used b ≡ true
  pub requests : (q : Request) → request ≡ Some q → IsWanted next p q.block
  pub log : AllUsed p t.log
  pub counts : Counts next p t.aborting t.log

-- outside a transaction no line is marked
abbrev pub Holds : Result Effect Cause → (ℕ → Option Line) → Option ℕ → Option Request → Option Transaction → Footprint → Type 0
Holds next lines reserved request None p = (b : ℕ) → marks_of (lines b) ≡ no_marks
Holds next lines reserved request (Some t) p = Inside next lines reserved request t p

abbrev pub HoldsOf : Setting → Hart → Footprint → Type 0
HoldsOf s h p = Holds (next_of s (flat_hart h)) h.lines h.reserved h.request h.tx p

-- Its entries

-- the footprint after an entry of its own
abbrev pub own_after : ℕ → Option Entry → Footprint → Footprint
own_after depth None p = p
own_after depth (Some (Retire i pc w x load store)) p = with_retired depth load store p
own_after depth (Some (Spill i b)) p = with_spill b p
own_after depth (Some (Abort i c)) p = p
own_after depth (Some (Trap i c q)) p = p
own_after depth (Some (Refuse j i b)) p = p

-- why a block may be spilled: it is one of the footprint, or its line is marked as overflowed and the next word accesses it
abbrev pub MaySpill : Result Effect Cause → Hart → Footprint → ℕ → Type 0
MaySpill next h p b = IsSome h.tx × ((p.used b ≡ true) ⊎ (((marks_of (h.lines b)).overflowed ≡ true) × IsOkAnd next (λ e. Accesses b e.act)))

-- the entry is hart i's, and has its reason
abbrev pub TellsWell : Result Effect Cause → ℕ → Hart → Footprint → Option Entry → Type 0
TellsWell next i h p None = Unit {0}
TellsWell next i h p (Some (Retire j pc w x load store)) = j ≡ i
TellsWell next i h p (Some (Spill j b)) = (j ≡ i) × MaySpill next h p b
TellsWell next i h p (Some (Abort j c)) = (j ≡ i) × MayEnd next p c
TellsWell next i h p (Some (Trap j c q)) = j ≡ i
TellsWell next i h p (Some (Refuse j k b)) = j ≡ i

-- a row of hart i keeps it so
pub record Keeps (s : Setting) (i depth : ℕ) (h : Hart) (p : Footprint) (t : HartResult) : Type 0 where
  pub own : HoldsOf s t.hart (own_after depth t.entry p)
  pub tells : TellsWell (next_of s (flat_hart h)) i h p t.entry

-- What a hart does next stays

-- its bits, its log and its cause are nothing that this looks at
pub spilled_next : (m : Bool) (o : Option Transaction) → option_map flat_tx (option_map (tx_spilled m) o) ≡ option_map flat_tx o
spilled_next m None = refl
spilled_next m (Some t) = refl

pub refusing_next : (y : Option Stamp) (o : Option Transaction) → option_map flat_tx (option_map (tx_refusing y) o) ≡ option_map flat_tx o
refusing_next y None = refl
refusing_next y (Some t) = refl

pub way_next : (early : Bool) (o : Option Transaction) → option_map flat_tx (option_map (gives_way early) o) ≡ option_map flat_tx o
way_next early None = refl
way_next early (Some t) = by t.cycle early
  where
    by : (x y : Bool) → Some (flat_tx (cond (x && y) (record t { aborting = Some Conflict }) t)) ≡ Some (flat_tx t)
    by true true = refl
    by true false = refl
    by false y = refl

-- a hart with this transaction
pub next_with : (s : Setting) (h : Hart) (o : Option Tx) → o ≡ option_map flat_tx h.tx → next_of s (record { regs = h.regs; pc = h.pc; output = h.output; status = h.status; tx = o }) ≡ next_of s (flat_hart h)
next_with s h o e = ap (λ z. next_of s (record { regs = h.regs; pc = h.pc; output = h.output; status = h.status; tx = z })) e

-- Rows that leave the lines

module _ (next : Result Effect Cause) (lines : ℕ → Option Line) (reserved : Option ℕ) (request : Option Request) (p : Footprint) where
  -- it refuses
  pub refusing : (y : Option Stamp) (o : Option Transaction) → Holds next lines reserved request o p → Holds next lines reserved request (option_map (tx_refusing y) o) p
  refusing y None v = v
  refusing y (Some t) v = record { logged = v.logged; read = v.read; written = v.written; overflowed = v.overflowed; reserves = v.reserves; requests = v.requests; log = v.log; counts = v.counts }

  -- it is refused
  pub refused : (early : Bool) (o : Option Transaction) → Holds next lines reserved request o p → Holds next lines reserved None (option_map (gives_way early) o) p
  refused early None v = v
  refused early (Some t) v = by t.cycle early
    where
      by : (x y : Bool) → Inside next lines reserved None (cond (x && y) (record t { aborting = Some Conflict }) t) p
      by true true = record { logged = v.logged; read = v.read; written = v.written; overflowed = v.overflowed; reserves = v.reserves; requests = λ q e. absurd (cc); log = v.log; counts = tt }
      by true false = record { logged = v.logged; read = v.read; written = v.written; overflowed = v.overflowed; reserves = v.reserves; requests = λ q e. absurd (cc); log = v.log; counts = v.counts }
      by false y = record { logged = v.logged; read = v.read; written = v.written; overflowed = v.overflowed; reserves = v.reserves; requests = λ q e. absurd (cc); log = v.log; counts = v.counts }

  -- it waits for a block that it wants
  pub waiting : (q : Request) (o : Option Transaction) → ((t : Transaction) → o ≡ Some t → IsWanted next p q.block) → Holds next lines reserved request o p → Holds next lines reserved (Some q) o p
  waiting q None w v = v
  waiting q (Some t) w v = record {
    logged = v.logged;
    read = v.read;
    written = v.written;
    overflowed = v.overflowed;
    reserves = v.reserves;
    requests = λ k e. subst (λ (z : Request). IsWanted next p z.block) (same_Some q k e) (w t refl);
    log = v.log;
    counts = v.counts;
  }

  -- an abort starts
  pub starting : (c : AbortCause) (t : Transaction) → MayEnd next p c → Inside next lines reserved request t p → Inside next lines reserved request (record t { aborting = Some c }) p
  starting c t may v = record { logged = v.logged; read = v.read; written = v.written; overflowed = v.overflowed; reserves = v.reserves; requests = v.requests; log = v.log; counts = may }
