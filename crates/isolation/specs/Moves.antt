-- The moves by which all ends of a program are searched: those of the flat machine, but for the places where a conflict's abort may come.
use Rattle.std.specs.Prelude.{ℕ, ◌≡◌, ◌≢◌, ◌<◌, ◌≤◌, Bool, true, false, None, List, [], ◌∷◌, IsSome, IsOkAnd}
use Rattle.words.specs.declared.entry.Entry.{Entry}
use Rattle.words.specs.declared.entry.Entry.TheVariants.{Retire, Abort, Refuse, Spill}
use Rattle.words.specs.declared.cause.AbortCause.TheVariants.{Conflict}
use Rattle.table.specs.declared.effect.Act.{Act}
use Rattle.table.specs.declared.effect.Act.TheVariants as act
use Rattle.flat.specs.State.{Setting, Flat}
use Rattle.flat.specs.Start.{first_state}
use Rattle.flat.specs.Causes.{next_of, depth_of}
use Rattle.flat.specs.Reservations.{Reservations, no_reservations, reserved_after, StoreHasReason}
use Rattle.flat.specs.Steps.{Carries, IsRunning, hart_of}

-- a load, a store, or both
abbrev pub is_access : Act → Bool
is_access (act.Memory m) = true
is_access (act.Conditional rd m) = true
is_access _ = false

-- a register operation, a jump or a branch
abbrev pub is_local : Act → Bool
is_local act.Nothing = true
is_local _ = false

-- the word at hart i's pc has no cause, and is an access to memory
abbrev pub IsAtAccess : Flat → ℕ → Type 0
IsAtAccess f i = IsOkAnd (next_of f.setting (f.hart i)) (λ e. is_access e.act ≡ true)

-- another hart than i is in a transaction
pub record IsBeside (f : Flat) (i : ℕ) : Type 0 where
  pub other : ℕ
  pub hart : other < f.setting.count
  pub apart : other ≢ i
  pub inside : IsSome (f.hart other).tx

-- hart i is in a transaction at an access, and another hart is in a transaction
pub record MayGiveWay (f : Flat) (i : ℕ) : Type 0 where
  pub running : IsRunning f i
  pub inside : IsSome (f.hart i).tx
  pub access : IsAtAccess f i
  pub beside : IsBeside f i

-- an entry that a hart gives by itself, or for a conflict where one may come. Refusals and spills change no flat state, and are no moves
abbrev pub MovesBy : Flat → Entry → Flat → Type 0
MovesBy f (Abort i Conflict) g = MayGiveWay f i × Carries f (Abort i Conflict) g
MovesBy f (Refuse i j b) g = ⊥
MovesBy f (Spill i b) g = ⊥
MovesBy f e g = Carries f e g

-- two harts, both in transactions at accesses, abort each for the other, the lower one first, where no third hart is in a transaction
pub record MoveTogether (f : Flat) (i j : ℕ) (g : Flat) : Type 0 where
  pub first : MayGiveWay f i
  pub second : MayGiveWay f j
  pub order : i < j
  pub alone : (k : ℕ) → k ≢ i → k ≢ j → (f.hart k).tx ≡ None
  pub between : Flat
  pub one : Carries f (Abort i Conflict) between
  pub other : Carries between (Abort j Conflict) g

-- a move gives one entry, or the two of harts that abort together
abbrev pub Moves : Flat → List Entry → Flat → Type 0
Moves f (e ∷ []) g = MovesBy f e g
Moves f (Abort i Conflict ∷ Abort j Conflict ∷ []) g = MoveTogether f i j g
Moves f _ g = ⊥

-- hart i runs, and the word at its pc is seen by nobody else
pub record IsLocal (f : Flat) (i : ℕ) : Type 0 where
  pub running : IsRunning f i
  pub word : IsOkAnd (next_of f.setting (f.hart i)) (λ e. is_local e.act ≡ true)

-- of the harts at a word that nobody else sees, i is the lowest
pub record IsFirstLocal (f : Flat) (i : ℕ) : Type 0 where
  pub here : IsLocal f i
  pub lowest : (k : ℕ) → IsLocal f k → i ≤ k

-- the entries are those of one hart
abbrev pub AreOf : ℕ → List Entry → Type 0
AreOf i es = (e : Entry) × (es ≡ e ∷ []) × (hart_of e ≡ i)

-- a move, where a hart at a word that nobody else sees goes before all others
pub record MovesInOrder (f : Flat) (es : List Entry) (g : Flat) : Type 0 where
  pub moves : Moves f es g
  pub ordered : (i : ℕ) → IsFirstLocal f i → AreOf i es

-- Places

-- a flat state, and the block that each hart has reserved in it
pub record Place : Type 0 where
  pub flat : Flat
  pub reserved : Reservations

-- how deep the harts are in transactions
abbrev pub depths : Flat → ℕ → ℕ
depths f i = depth_of (f.hart i).tx

-- the first entry of a move has its reason, if it is of a conditional store that succeeds
abbrev pub IsReserved : Reservations → List Entry → Type 0
IsReserved r (Retire i pc w x l s ∷ es) = StoreHasReason r i w s
IsReserved r es = Unit {0}

-- the reservations after the entries of a move
abbrev pub reserved_behind : Flat → Reservations → List Entry → Reservations
reserved_behind f r [] = r
reserved_behind f r (e ∷ es) = reserved_behind f (reserved_after (depths f) e r) es

-- a move leads from one place to another
pub record Leads (p : Place) (es : List Entry) (q : Place) : Type 0 where
  pub moves : Moves p.flat es q.flat
  pub reason : IsReserved p.reserved es
  pub reserved : q.reserved ≡ reserved_behind p.flat p.reserved es

-- so does one that goes in order
pub record LeadsInOrder (p : Place) (es : List Entry) (q : Place) : Type 0 where
  pub moves : MovesInOrder p.flat es q.flat
  pub reason : IsReserved p.reserved es
  pub reserved : q.reserved ≡ reserved_behind p.flat p.reserved es

-- where a program begins
abbrev pub first_place : Setting → ℕ → Place
first_place s entry = record { flat = first_state s entry; reserved = no_reservations }
