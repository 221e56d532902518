-- A visit to a hart: a step of its core, and then what is owed, step by step.
use Rattle.std.specs.Prelude.{ℕ, ◌≡◌, ◌<◌, ◌⊎◌, ◌↔◌, List, [], ◌∷◌, length, Bool, true, false, Option, Some, None, Result, Ok, Err, IsTrue}
use Rattle.std.specs.declared.alloc.AllocError.{AllocError}
use Rattle.words.specs.declared.entry.Entry.{Entry}
use Rattle.words.specs.declared.entry.Step.{Step}
use Rattle.words.specs.declared.entry.Step.TheVariants as step
use Rattle.protocol.specs.Caches.{Geometry}
use Rattle.machine.specs.States.{State, shown}
use Rattle.machine.specs.Turns.{IsOwed}
use Rattle.schedule.specs.declared.choices.Choice.{Choice}
use Rattle.schedule.specs.declared.choices.Choice.TheVariants.{Core}
use Rattle.board.specs.Histories.{Told}
use Rattle.board.specs.Boards.{Held, IsRunning, IsTurn, IsAsBefore}

-- a step is owed on a visit to hart i; or none is
abbrev pub Owes : Geometry → ℕ → State → Option Step → Type 0
Owes g i m step = IsOwed (shown g.sets m) m.flights i step

module _ {J : Type 0} where
  -- steps are made, each of which is owed when its turn comes
  abbrev pub PaysOff : Geometry → (J → Told → Type 0) → ℕ → List Step → Held J → Held J → Type 0
  PaysOff g tells i [] b c = c ≡ b
  PaysOff g tells i (x ∷ xs) b c =
      (d : Held J) × (choice : Choice) × (e : Option Entry) × Owes g i b.machine (Some x) × IsTurn g tells b x (Some choice) e d × PaysOff g tells i xs d c

  -- a step of the hart's core, and then so many that are owed
  pub record IsVisitOf (g : Geometry) (tells : J → Told → Type 0) (i n : ℕ) (b c : Held J) : Type 0 where
    pub steps : List Step
    pub count : length steps ≡ n
    pub middle : Held J
    pub entry : Option Entry
    pub begins : IsTurn g tells b (step.Core i) (Some (Core i)) entry middle
    pub pays : PaysOff g tells i steps middle c

  -- a whole visit: 64 steps in all, or fewer, if nothing more is owed
  pub record IsVisit (g : Geometry) (tells : J → Told → Type 0) (i : ℕ) (b c : Held J) : Type 0 where
    pub count : ℕ
    pub visited : IsVisitOf g tells i count b c
    pub ends : (count ≡ 63) ⊎ ((count < 63) × Owes g i c.machine None)

  -- the beginning of a visit, which wants memory for its next step
  abbrev pub BeginsVisit : Geometry → (J → Told → Type 0) → ℕ → Held J → Held J → Type 0
  BeginsVisit g tells i b c = IsAsBefore tells b c ⊎ ((n : ℕ) × (d : Held J) × (n < 63) × IsVisitOf g tells i n b d × IsAsBefore tells d c)

  -- a visit, and whether the hart runs then; or the beginning of one
  abbrev pub Visits : Geometry → (J → Told → Type 0) → ℕ → Held J → Result Bool AllocError → Held J → Type 0
  Visits g tells i b (Ok runs) c = IsVisit g tells i b c × (IsTrue runs ↔ IsRunning c.machine i)
  Visits g tells i b (Err e) c = BeginsVisit g tells i b c

  -- a step that is owed was made; or none is owed, and nothing changed
  abbrev pub PaysOne : Geometry → (J → Told → Type 0) → ℕ → Bool → Held J → Held J → Type 0
  PaysOne g tells i true b c = (x : Step) × (choice : Choice) × (e : Option Entry) × Owes g i b.machine (Some x) × IsTurn g tells b x (Some choice) e c
  PaysOne g tells i false b c = Owes g i b.machine None × (c ≡ b)
