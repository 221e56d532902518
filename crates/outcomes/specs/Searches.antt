-- What a search has found, as flat states with their reservations, and how far it has come.
use Rattle.std.specs.Prelude.{ℕ, ◌≡◌, ◌<◌, ◌≤◌, ◌+◌, ◌⊎◌, true, false, Some, List, [], ◌∷◌, length, slice_get}
use Rattle.words.specs.declared.cause.AbortCause.TheVariants.{Conflict}
use Rattle.words.specs.declared.entry.Entry.{Entry}
use Rattle.words.specs.declared.entry.Entry.TheVariants.{Abort}
use Rattle.table.specs.Program.{Segment}
use Rattle.flat.specs.State.{Setting, Flat}
use Rattle.flat.specs.Boots.{booted}
use Rattle.flat.specs.Reservations.{no_reservations}
use Rattle.isolation.specs.Moves.{Place, LeadsInOrder}
use Rattle.isolation.specs.Walks.{IsEnded, WalksInOrder}
use Rattle.outcomes.specs.declared.pool.State.{State}
use Rattle.outcomes.specs.declared.breadth_first.Move.{Move}
use Rattle.outcomes.specs.declared.breadth_first.Move.TheVariants.{One, Two}
use Rattle.outcomes.specs.declared.breadth_first.Origin.{Origin}
use Rattle.outcomes.specs.declared.breadth_first.Outcomes.{Outcomes}
use Rattle.outcomes.specs.Pools.{flat_in, reserved_in, IsWithin, Grows}

abbrev pub setting_at : Outcomes → Setting
setting_at o = record { segments = o.program.segments; size = length o.image.items; count = o.count }

-- a state of a search as a flat state
abbrev pub flat_at : Outcomes → State → Flat
flat_at o x = flat_in (setting_at o) o.image.items o.pool x

-- and with its reservations
abbrev pub place_at : Outcomes → State → Place
place_at o x = record { flat = flat_at o x; reserved = λ i. reserved_in o.pool x i }

-- the state at a place
abbrev pub Stands : Outcomes → ℕ → State → Type 0
Stands o k x = slice_get o.states.keys k ≡ Some x

-- a flat state with these reservations was met
pub record IsMet (o : Outcomes) (p : Place) : Type 0 where
  pub place : ℕ
  pub state : State
  pub stands : Stands o place state
  pub is : place_at o state ≡ p

-- each move from the state at a place leads to one that was met
abbrev pub IsExpanded : Outcomes → ℕ → Type 0
IsExpanded o k = (x : State) → Stands o k x → (es : List Entry) (q : Place) → LeadsInOrder (place_at o x) es q → IsMet o q

-- the entries of a move
abbrev pub shown_by : Move → List Entry
shown_by (One e) = e ∷ []
shown_by (Two i j) = Abort i Conflict ∷ Abort j Conflict ∷ []

-- the state behind a place is where a move from an earlier one leads
pub record Came (o : Outcomes) (k : ℕ) (g : Origin) : Type 0 where
  pub earlier : g.from ≤ k
  pub moves : (x y : State) → Stands o g.from x → Stands o (k + 1) y → LeadsInOrder (place_at o x) (shown_by g.shown) (place_at o y)

-- a search holds its first state, each other one with its origin, and all that they name
pub record IsSearch (o : Outcomes) : Type 0 where
  pub few : o.count ≤ 8
  pub some : 0 < length o.states.keys
  pub within : (k : ℕ) (x : State) → Stands o k x → IsWithin o.count o.pool x
  pub origins : length o.origins.items + 1 ≡ length o.states.keys
  pub came : (k : ℕ) (g : Origin) → slice_get o.origins.items k ≡ Some g → Came o k g

-- a search goes on: what it held stays where it was
pub record Extends (old new : Outcomes) : Type 0 where
  pub setting : setting_at new ≡ setting_at old
  pub image : new.image.items ≡ old.image.items
  pub pool : Grows old.pool new.pool
  pub states : (k : ℕ) (x : State) → Stands old k x → Stands new k x

-- in the state at a place no hart runs
pub record IsEnd (o : Outcomes) (k : ℕ) : Type 0 where
  pub state : State
  pub stands : Stands o k state
  pub ended : IsEnded (flat_at o state)

-- a move from a state that was met leads to one more, and as many as the limit are held
pub record IsBeyond (o : Outcomes) (limit : ℕ) : Type 0 where
  pub full : limit ≤ length o.states.keys
  pub from : ℕ
  pub before : State
  pub stands : Stands o from before
  pub entries : List Entry
  pub state : State
  pub within : IsWithin o.count o.pool state
  pub moves : LeadsInOrder (place_at o before) entries (place_at o state)
  pub new : (k : ℕ) → Stands o k state → ⊥

-- where a program with these segments and this entry begins: in its first state, without a reservation
abbrev pub booted_place : List Segment → ℕ → ℕ → ℕ → Place
booted_place segments entry n s = record { flat = booted segments entry n s; reserved = no_reservations }

-- a search that has met its first state alone
pub record IsBegun (first : Place) (o : Outcomes) : Type 0 where
  pub search : IsSearch o
  pub state : State
  pub only : o.states.keys ≡ state ∷ []
  pub is : place_at o state ≡ first

-- a search from a flat state with its reservations: all that it met is reached by walks; where it says so, all that is reached was met; else there is one state
-- more than the limit
pub record Finds (first : Place) (limit : ℕ) (o : Outcomes) : Type 0 where
  pub search : IsSearch o
  pub start : (x : State) → Stands o 0 x → place_at o x ≡ first
  pub sound : (k : ℕ) (x : State) → Stands o k x → (ess : List (List Entry)) × WalksInOrder first ess (place_at o x)
  pub complete : o.is_all ≡ true → (ess : List (List Entry)) (q : Place) → WalksInOrder first ess q → IsMet o q
  pub within : 0 < limit → length o.states.keys ≤ limit
  pub beyond : o.is_all ≡ false → (limit ≡ 0) ⊎ IsBeyond o limit
