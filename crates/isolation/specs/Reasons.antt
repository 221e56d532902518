-- The runs whose refusals, spills, conditional stores, and aborts for a conflict or a full log have their reasons, as all runs of the coherent machine do.
use Rattle.std.specs.Prelude.{ℕ, ◌≡◌, ◌<◌, ◌/◌, ◌⊎◌, true, false, List, [], ◌∷◌, ◌++◌, IsSome, IsOkAnd}
use Rattle.words.specs.Limits.{log_records}
use Rattle.words.specs.declared.entry.Entry.{Entry}
use Rattle.words.specs.declared.entry.Entry.TheVariants.{Retire, Abort, Refuse, Spill}
use Rattle.words.specs.declared.cause.AbortCause.TheVariants.{Conflict, LogFull}
use Rattle.table.specs.declared.effect.MemoryAct.{MemoryAct}
use Rattle.table.specs.declared.effect.Act.{Act}
use Rattle.table.specs.declared.effect.Act.TheVariants as act
use Rattle.flat.specs.State.{Flat}
use Rattle.flat.specs.Causes.{next_of}
use Rattle.flat.specs.Steps.{IsRun}
use Rattle.protocol.specs.Caches.{Geometry}
use Rattle.protocol.specs.Machine.{Machine}
use Rattle.isolation.specs.Belongs.{BelongsAfter}
use Rattle.flat.specs.Reasons.{History, no_history, history_of, RefusalHasReason, ConflictHasReason}
use Rattle.flat.specs.Reservations.{Reservations, reservations_of, StoreHasReason}
use Rattle.isolation.specs.Footprints.{Footprint, Footprints, footprints_of}

-- the act loads from or stores to block b, and not on a condition
abbrev pub Accesses : ℕ → Act → Type 0
Accesses b (act.Memory m) = m.addr / 32 ≡ b
Accesses b _ = ⊥

-- why hart i may give a Spill of block b: it is in a transaction that has loaded from or stored to the block. Or it has given a Spill since its outermost begin, so that
-- lines are marked as they are filled, and the word at its pc, for which the line was filled, accesses the block
pub record SpillHasReason (f : Flat) (h : History) (p : Footprints) (i b : ℕ) : Type 0 where
  pub hart : i < f.setting.count
  pub inside : 0 < (h.past i).depth
  pub marked : ((p i).used b ≡ true) ⊎ (((h.past i).has_spilled ≡ true) × IsOkAnd (next_of f.setting (f.hart i)) (λ e. Accesses b e.act))

-- a store to a block that the log has no record of, or none since the block's last Spill
abbrev pub IsFirstStore : Footprint → MemoryAct → Type 0
IsFirstStore p m = IsSome m.store × (p.logged (m.addr / 32) ≡ false)

-- the act needs a record
abbrev pub NeedsRecord : Footprint → Act → Type 0
NeedsRecord p (act.Memory m) = IsFirstStore p m
NeedsRecord p (act.Conditional rd m) = IsFirstStore p m
NeedsRecord p _ = ⊥

-- why hart i's transaction may abort for a full log: since its outermost begin as many of its stores as the log has records needed one, and the word at its pc needs one more
pub record FullLogHasReason (f : Flat) (p : Footprints) (i : ℕ) : Type 0 where
  pub full : (p i).records ≡ log_records
  pub more : IsOkAnd (next_of f.setting (f.hart i)) (λ e. NeedsRecord (p i) e.act)

-- in this state, after entries with this history, which have left these reservations and footprints, the entry has its reason. Only a refusal, a spill, an abort for a
-- conflict or a full log, and a conditional store that succeeds need one
abbrev pub HasReason : Flat → History → Reservations → Footprints → Entry → Type 0
HasReason f h r p (Refuse j i b) = RefusalHasReason f h j i b
HasReason f h r p (Spill i b) = SpillHasReason f h p i b
HasReason f h r p (Abort i Conflict) = ConflictHasReason h i
HasReason f h r p (Abort i LogFull) = FullLogHasReason f p i
HasReason f h r p (Retire i pc word write load store) = StoreHasReason r i word store
HasReason f h r p e = Unit {0}

-- the entry has its reason after the entries that were given before
abbrev pub HasReasonAfter : List Entry → Flat → Entry → Type 0
HasReasonAfter before f e = HasReason f (history_of no_history before) (reservations_of before) (footprints_of before) e

-- each entry of a run that begins in f has its reason, at its place after the entries that were given before
abbrev pub HaveReasonsAfter : List Entry → Flat → List Entry → Type 0
HaveReasonsAfter past f es = (before after : List Entry) (e : Entry) (g : Flat) → es ≡ before ++ e ∷ after → IsRun f before g → HasReasonAfter (past ++ before) g e

-- the same of a run before which no entry was given
abbrev pub HaveReasons : Flat → List Entry → Type 0
HaveReasons f es = HaveReasonsAfter [] f es

-- entries lead on from one machine to another: they carry each flat state that belongs to the one to a state that belongs to the other, and each of them has its
-- reason, after the entries that have led to the one
abbrev pub LeadOn : Geometry → Machine → List Entry → Machine → Type 0
LeadOn g v es w = (past : List Entry) (f : Flat) → BelongsAfter g past f v → (h : Flat) × IsRun f es h × HaveReasonsAfter past f es × BelongsAfter g (past ++ es) h w
