-- The turns of harts that workers serve: the choices that a turn is made of, and how many turns each hart has had.
use Rattle.std.specs.Prelude.{ℕ, ◌≡◌, ◌<◌, ◌≤◌, ◌⊎◌, ◌++◌, ◌==◌, List, [], ◌∷◌, length, replicate, count_by, Bool, true, Option, Some, None, slice_index}
use Rattle.std.specs.List.{flat_map}
use Rattle.words.specs.Limits.{most_harts}
use Rattle.words.specs.declared.entry.Entry.{Entry}
use Rattle.words.specs.declared.entry.Step.{Step}
use Rattle.words.specs.declared.entry.Step.TheVariants as step
use Rattle.table.specs.Program.{AreBytes}
use Rattle.loader.specs.Programs.{Program}
use Rattle.flat.specs.State.{Flat}
use Rattle.flat.specs.Steps.{IsRun}
use Rattle.protocol.specs.Caches.{Geometry}
use Rattle.isolation.specs.Belongs.{Belongs}
use Rattle.isolation.specs.Reasons.{HaveReasons}
use Rattle.machine.specs.States.{State, shown}
use Rattle.schedule.specs.declared.choices.Choice.{Choice}
use Rattle.schedule.specs.declared.choices.Choice.TheVariants.{Core}
use Rattle.schedule.specs.Runs.{Makes}
use Rattle.schedule.specs.Steps.{IsChoiceOf}
use Rattle.board.specs.Leases.{most_steps}
use Rattle.board.specs.Histories.{Told, Leads, IsReplay, IsCourse, first_flat}
use Rattle.board.specs.Boards.{Held, IsRunning}
use Rattle.board.specs.Visits.{Owes}

-- A turn

-- a hart's turn: so many steps of its core on loan, and then a visit: one step more of its core, and what is owed then
pub record Turn : Type 0 where
  pub hart : ℕ
  pub alone : ℕ
  pub owed : List Choice

-- the choices that it is made of
abbrev pub choices_of : Turn → List Choice
choices_of t = replicate t.alone (Core t.hart) ++ Core t.hart ∷ t.owed

-- steps are made by these choices, each of which is owed on a visit to hart i when its turn comes
abbrev pub MakesOwed : Geometry → ℕ → List Choice → State → State → Type 0
MakesOwed g i [] v w = w ≡ v
MakesOwed g i (c ∷ cs) v w =
    (step : Step) × (e : Option Entry) × (u : State) × Owes g i v (Some step) × IsChoiceOf g.sets v step c × Makes g v (Some step) e u × MakesOwed g i cs u w

-- a turn leads from one machine to another. On loan the hart makes 4,096 steps at most; the visit has 64 in all, or fewer, if nothing more is owed
pub record IsTaken (g : Geometry) (t : Turn) (v w : State) : Type 0 where
  pub short : t.alone ≤ most_steps
  pub entries : List Entry
  pub settled : State
  pub alone : Leads g (replicate t.alone (Core t.hart)) v entries settled
  pub entry : Option Entry
  pub begun : State
  pub begins : Makes g settled (Some (step.Core t.hart)) entry begun
  pub owed : MakesOwed g t.hart t.owed begun w
  pub ends : (length t.owed ≡ 63) ⊎ ((length t.owed < 63) × Owes g t.hart w None)

-- Turns of harts

-- turns, one after the other
abbrev pub AreTaken : Geometry → List Turn → State → State → Type 0
AreTaken g [] v w = w ≡ v
AreTaken g (t ∷ ts) v w = (u : State) × IsTaken g t v u × AreTaken g ts u w

-- how many of them are hart i's
abbrev pub turns_of : ℕ → List Turn → ℕ
turns_of i ts = count_by (λ t. t.hart == i) ts

-- the choices that have led from one machine to another are those of whole turns, one after the other. No hart has had more than so many, and each
-- that runs has had just so many
pub record AreOfTurns (g : Geometry) (most : ℕ) (Runs : ℕ → Type 0) (first : State) (choices : List Choice) (last : State) : Type 0 where
  pub turns : List Turn
  pub same : choices ≡ flat_map choices_of turns
  pub taken : AreTaken g turns first last
  pub few : (i : ℕ) → turns_of i turns ≤ most
  pub all : (i : ℕ) → Runs i → turns_of i turns ≡ most

-- hart i is one that a machine may have, and runs
abbrev pub IsLeft : State → ℕ → Type 0
IsLeft m i = (i < most_harts) × IsRunning m i

-- What a board with turns has

-- a board, how many turns each hart has had, and whether nothing but whole turns was made
pub record Counted (J : Type 0) : Type 0 where
  pub board : Held J
  pub turns : List ℕ
  pub whole : Bool

module _ {J : Type 0} where
  -- whole turns, so many of each hart, have led to a board's machine, from where its program begins. Its journal tells their steps, which are a course
  pub record IsServed (g : Geometry) (tells : J → Told → Type 0) (b : Held J) (counts : List ℕ) : Type 0 where
    pub bytes : AreBytes b.program.segments
    pub steps : List Step
    pub entries : List Entry
    pub choices : List Choice
    pub told : tells b.journal (record { steps = steps; entries = entries; choices = Some choices })
    pub replay : IsReplay g b.program b.harts b.size steps b.machine entries
    pub course : IsCourse g b.program b.harts b.size choices entries b.machine
    pub turns : List Turn
    pub same : choices ≡ flat_map choices_of turns
    pub taken : AreTaken g turns course.first b.machine
    pub counted : (i : ℕ) → turns_of i turns ≡ slice_index counts i

  -- hart i has had no more than so many turns, and if it runs, just so many
  abbrev pub HasHad : ℕ → Counted J → ℕ → Type 0
  HasHad most b i = (slice_index b.turns i ≤ most) × (IsRunning b.board.machine i → slice_index b.turns i ≡ most)

  abbrev pub HaveHad : ℕ → Counted J → Type 0
  HaveHad most b = (i : ℕ) → i < most_harts → HasHad most b i

  -- and nothing but whole turns was made
  abbrev pub IsDone : ℕ → Counted J → Type 0
  IsDone most b = (b.whole ≡ true) × HaveHad most b

-- whole turns have led to this machine: no hart has had more than so many, and each that runs just so many. What is told has their choices. Their entries are
-- a run of the flat machine, each with its reason, to a state that belongs to the machine
pub record IsServedEnd (g : Geometry) (p : Program) (n size : ℕ) (tells : Told → Type 0) (most : ℕ) (m : State) : Type 0 where
  pub steps : List Step
  pub entries : List Entry
  pub choices : List Choice
  pub told : tells (record { steps = steps; entries = entries; choices = Some choices })
  pub course : IsCourse g p n size choices entries m
  pub turns : AreOfTurns g most (IsLeft m) course.first choices m
  pub flat : Flat
  pub runs : IsRun (first_flat p n size) entries flat
  pub reasons : HaveReasons (first_flat p n size) entries
  pub belongs : Belongs g flat (shown g.sets m)
