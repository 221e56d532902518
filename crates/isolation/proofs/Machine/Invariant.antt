-- What holds of a machine beside the flat machine after every list of steps: what is said of each hart, and of each block.
use Rattle.std.proofs.Common.{◌≡◌, ◌≤◌, ◌<◌, ℕ, false, Option, None, Some, cond, length, min, ◌/◌, Bool, refl, sym, ap, subst₂, ◌∙◌}
use Rattle.std.specs.Prelude.{IsSomeAnd}
use Rattle.words.specs.declared.cause.AbortCause.{AbortCause}
use Rattle.words.specs.declared.cause.AbortCause.TheVariants.{Asked, Conflict, LogFull, Trapped}
use Rattle.words.specs.declared.entry.Entry.{Entry}
use Rattle.words.specs.declared.entry.Entry.TheVariants.{Retire, Abort, Trap, Refuse, Spill}
use Rattle.words.specs.declared.stamp.Stamp.{Stamp}
use Rattle.flat.specs.State.{Setting, FlatHart, Flat, Tx as FlatTx, has_written}
use Rattle.flat.specs.Causes.{next_of}
use Rattle.flat.specs.Steps.{MayAbort, CarriesSome}
use Rattle.flat.specs.Reasons.{Past, History, told, RefusalHasReason, ConflictHasReason}
use Rattle.protocol.specs.Messages.{Message}
use Rattle.protocol.specs.Hart.{Hart, Transaction, Request, PutOut}
use Rattle.protocol.specs.Machine.{Machine, no_change, ComesAbout}
use Rattle.protocol.specs.Lines.{Line}
use Rattle.isolation.proofs.OneBlock.Invariant.Each.{Good}
use Rattle.isolation.proofs.Machine.Slots.{Slot, Mail}
use Rattle.isolation.proofs.Machine.Sends.{Carried}
use Rattle.isolation.proofs.Machine.World.{World, project}

-- One hart

-- a transaction is the flat machine's; each of its records came with a store
pub record SameTx (t : Transaction) (u : FlatTx) : Type 0 where
  pub checkpoint : u.checkpoint ≡ t.checkpoint
  pub abort_pc : u.abort_pc ≡ t.abort_pc
  pub depth : u.depth ≡ t.depth
  pub logged : length t.log ≤ min u.stores 113

-- a hart is in a transaction in both machines, or in none
abbrev pub TxIs : Option Transaction → Option FlatTx → Type 0
TxIs None None = Unit {0}
TxIs None (Some u) = ⊥
TxIs (Some t) None = ⊥
TxIs (Some t) (Some u) = SameTx t u

-- a transaction that is being aborted may be aborted, for that cause
abbrev pub CauseIsDue : Setting → Option AbortCause → FlatHart → Type 0
CauseIsDue s None f = Unit {0}
CauseIsDue s (Some c) f = IsSomeAnd f.tx (λ u. MayAbort c f u (next_of s f))

-- so it is for a hart
abbrev pub AbortIsDue : Setting → Option Transaction → FlatHart → Type 0
AbortIsDue s None f = Unit {0}
AbortIsDue s (Some t) f = CauseIsDue s t.aborting f

-- what the entries say of a transaction
pub record InPast (t : Transaction) (kept : Option Stamp) (p : Past) : Type 0 where
  pub depth : p.depth ≡ t.depth
  pub inside : 1 ≤ t.depth
  pub stamp : p.stamp ≡ t.stamp
  pub ran : p.was_aborted ≡ false
  pub none_kept : kept ≡ None

-- a hart outside transactions has a stamp kept if its last one was aborted
abbrev pub PastIs : Option Transaction → Option Stamp → Past → Type 0
PastIs None kept p = (p.depth ≡ 0) × (kept ≡ cond p.was_aborted (Some p.stamp) None)
PastIs (Some t) kept p = InPast t kept p

-- hart and flat hart are the same, and the entries agree
pub record HartIs (s : Setting) (h : Hart) (f : FlatHart) (p : Past) : Type 0 where
  pub regs : f.regs ≡ h.regs
  pub pc : f.pc ≡ h.pc
  pub output : f.output ≡ h.output
  pub status : f.status ≡ h.status
  pub tx : TxIs h.tx f.tx
  pub due : AbortIsDue s h.tx f
  pub past : PastIs h.tx h.kept_stamp p

-- a hart's reservation, its lines, its request and its Put are nothing that this looks at, nor whether it is fresh
pub hart_beside : (s : Setting) (h : Hart) (f : FlatHart) (p : Past) (reserved : Option ℕ) (lines : ℕ → Option Line) (request : Option Request) (put : Option PutOut) (fresh : Bool) → HartIs s h f p
    → HartIs s (record h { reserved = reserved; lines = lines; request = request; put = put; fresh = fresh }) f p
hart_beside s h f p reserved lines request put fresh z = record { regs = z.regs; pc = z.pc; output = z.output; status = z.status; tx = z.tx; due = z.due; past = z.past }

-- The flat state

-- the byte that a transaction has written at an address
abbrev pub written_byte : Option FlatTx → ℕ → Option ℕ
written_byte None a = None
written_byte (Some t) a = t.writes a

abbrev pub IsByte : Option ℕ → Type 0
IsByte None = Unit {0}
IsByte (Some v) = v < 256

-- memory and the transactions have bytes, and a transaction has them only in blocks that it has written
pub record HasBytes (f : Flat) : Type 0 where
  pub mem : (a : ℕ) → f.mem a < 256
  pub writes : (i a : ℕ) → IsByte (written_byte (f.hart i).tx a)
  pub within : (i a : ℕ) → has_written (f.hart i).tx (a / 32) ≡ false → written_byte (f.hart i).tx a ≡ None

-- All of it

pub record Inv (x : World) : Type 0 where
  pub same : x.flat.setting ≡ x.machine.setting
  pub carried : Carried x.machine.net x.mail
  pub range : (a : Slot) (m : Message) → x.mail a ≡ Some m → a.hart < x.machine.setting.count
  pub taken : x.history.taken ≡ x.machine.stamps
  pub harts : (i : ℕ) → HartIs x.machine.setting (x.machine.harts i) (x.flat.hart i) (x.history.past i)
  pub bytes : HasBytes x.flat
  pub blocks : (b : ℕ) → Good x.machine.setting.count (project b x)

-- What a step leads to

-- what the entries say after one more, if there is one
abbrev pub told_some : History → Option Entry → History
told_some h None = h
told_some h (Some e) = told h e

-- an entry that has to have a reason has it
abbrev pub AbortHasReason : History → ℕ → AbortCause → Type 0
AbortHasReason h i Asked = Unit {0}
AbortHasReason h i Conflict = ConflictHasReason h i
AbortHasReason h i LogFull = Unit {0}
AbortHasReason h i (Trapped c p) = Unit {0}

-- only an abort by conflict and a refusal need one
abbrev pub EntryHasReason : Flat → History → Entry → Type 0
EntryHasReason f h (Retire i pc word write load store) = Unit {0}
EntryHasReason f h (Abort i c) = AbortHasReason h i c
EntryHasReason f h (Trap i c p) = Unit {0}
EntryHasReason f h (Refuse j i b) = RefusalHasReason f h j i b
EntryHasReason f h (Spill i b) = Unit {0}

abbrev pub HasReason : Flat → History → Option Entry → Type 0
HasReason f h None = Unit {0}
HasReason f h (Some e) = EntryHasReason f h e

-- the entry carries the flat state to one beside which the machine after it stands
pub record Next (x : World) (e : Option Entry) (w : Machine) : Type 0 where
  pub flat : Flat
  pub mail : Mail
  pub carries : CarriesSome x.flat e flat
  pub reason : HasReason x.flat x.history e
  pub inv : Inv (record { machine = w; flat = flat; history = told_some x.history e; mail = mail })

-- where nothing changes
pub still_next : (x : World) → Inv x → (e : Option Entry) (w : Machine) → ComesAbout (no_change x.machine) e w → Next x e w
still_next x v e w c = subst₂ (λ e w. Next x e w) (sym c.0) (sym (c.3 ∙ ap (λ net. record x.machine { net = net }) c.2)) (record { flat = x.flat; mail = x.mail; carries = refl; reason = tt; inv = v })
