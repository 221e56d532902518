-- The moves that a search makes of a state.
use Rattle.std.specs.Prelude.{ℕ, ◌≡◌, ◌<◌, ◌⊎◌, Bool, true, false, ◌&&◌, None, Result, Ok, Err, List, [], ◌∷◌, length, is_none, IsSomeAnd}
use Rattle.std.specs.List.{Contains}
use Rattle.words.specs.declared.entry.Entry.{Entry}
use Rattle.words.specs.declared.entry.Entry.TheVariants.{Retire, Abort, Trap}
use Rattle.words.specs.declared.cause.Cause.{Cause}
use Rattle.words.specs.declared.cause.AbortCause.{AbortCause}
use Rattle.words.specs.declared.cause.AbortCause.TheVariants.{Asked, Conflict, Trapped}
use Rattle.table.specs.declared.effect.Effect.{Effect}
use Rattle.table.specs.declared.effect.Act.{Act}
use Rattle.table.specs.declared.effect.Act.TheVariants as act
use Rattle.flat.specs.State.{Flat}
use Rattle.flat.specs.Causes.{next_of}
use Rattle.flat.specs.Steps.{Carries, hart_aborted, hart_of as entry_hart}
use Rattle.isolation.specs.Moves.{Moves, MovesInOrder}
use Rattle.outcomes.specs.declared.change.Turn.{Turn}
use Rattle.outcomes.specs.declared.change.Turn.TheVariants.{Alone, Together}
use Rattle.outcomes.specs.declared.change.Change.{Change}
use Rattle.outcomes.specs.Harts.{hart_of}
use Rattle.outcomes.specs.Standings.{changed}

-- hart i's transaction was rolled back, and memory stays
pub record IsBack (image : List ℕ) (f : Flat) (i : ℕ) (cause : AbortCause) (c : Change) : Type 0 where
  pub id : c.id ≡ i
  pub memory : c.memory ≡ None
  pub hart : IsSomeAnd (f.hart i).tx (λ t. hart_of (length image) c.hart ≡ hart_aborted (f.hart i) cause t)

-- the entries that a move gives
abbrev pub entries_of : Turn → List Entry
entries_of (Alone e c) = e ∷ []
entries_of (Together a b) = Abort a.id Conflict ∷ Abort b.id Conflict ∷ []

-- the move is of harts below a number
abbrev pub IsOf : ℕ → Turn → Type 0
IsOf count (Alone e c) = c.id < count
IsOf count (Together a b) = (a.id < count) × (b.id < count)

-- the flat state after it, in a memory that began with these bytes
abbrev pub after : List ℕ → Flat → Turn → Flat
after image f (Alone e c) = changed image f c
after image f (Together a b) = changed image (changed image f a) b

-- the entry tells of the word at the hart's pc alone
abbrev pub IsOwn : Entry → Type 0
IsOwn (Retire i pc word write load store) = Unit {0}
IsOwn (Abort i Asked) = Unit {0}
IsOwn (Abort i (Trapped c p)) = Unit {0}
IsOwn (Trap i c p) = Unit {0}
IsOwn _ = ⊥

-- whether an act is a conditional store
abbrev pub is_conditional : Act → Bool
is_conditional (act.Conditional rd m) = true
is_conditional _ = false

-- whether what a hart does next is one
abbrev pub is_next_conditional : Result Effect Cause → Bool
is_next_conditional (Ok e) = is_conditional e.act
is_next_conditional (Err c) = false

-- whether the entry tells of a conditional store that failed: its hart is at one, and nothing is stored
abbrev pub is_failure : Flat → Entry → Bool
is_failure f (Retire i pc word write load store) = is_next_conditional (next_of f.setting (f.hart i)) && is_none store
is_failure f _ = false

-- what is made is a move of hart i by its word alone, and tells of a failure or not
pub record IsOwnMove (image : List ℕ) (f : Flat) (i : ℕ) (failed : Bool) (t : Turn) : Type 0 where
  pub entry : Entry
  pub shown : entries_of t ≡ entry ∷ []
  pub own : IsOwn entry
  pub tells : is_failure f entry ≡ failed
  pub hart : entry_hart entry ≡ i
  pub of : IsOf f.setting.count t
  pub carries : Carries f entry (after image f t)

-- what is made is a move
abbrev pub IsMove : List ℕ → Flat → Turn → Type 0
IsMove image f t = IsOf f.setting.count t × Moves f (entries_of t) (after image f t)

-- and one that the search takes
abbrev pub IsMoveInOrder : List ℕ → Flat → Turn → Type 0
IsMoveInOrder image f t = IsOf f.setting.count t × MovesInOrder f (entries_of t) (after image f t)

-- one of these moves gives these entries, and leads to this state
pub record Has (image : List ℕ) (f : Flat) (turns : List Turn) (es : List Entry) (g : Flat) : Type 0 where
  pub turn : Turn
  pub among : Contains turns turn
  pub shown : entries_of turn ≡ es
  pub leads : after image f turn ≡ g

-- moves are added to a list, and all that are new are moves of this state
pub record Adds (image : List ℕ) (f : Flat) (old new : List Turn) : Type 0 where
  pub kept : (t : Turn) → Contains old t → Contains new t
  pub added : (t : Turn) → Contains new t → Contains old t ⊎ IsMove image f t
