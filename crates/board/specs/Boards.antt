-- What contracts see of a board: a machine, and a journal of the steps that have led to it.
use Rattle.std.specs.Prelude.{ℕ, ◌≡◌, ◌<◌, ◌≤◌, List, length, replicate, Option, Some, None, Bool, true, false, Result, Ok, Err}
use Rattle.words.specs.Limits.{most_harts}
use Rattle.words.specs.declared.cause.Status.TheVariants.{Running}
use Rattle.words.specs.declared.entry.Entry.{Entry}
use Rattle.words.specs.declared.entry.Step.{Step}
use Rattle.words.specs.declared.entry.Step.TheVariants as step
use Rattle.loader.specs.Programs.{Program}
use Rattle.flat.specs.Boots.{boot_fault}
use Rattle.table.specs.Program.{AreBytes}
use Rattle.protocol.specs.Caches.{Geometry}
use Rattle.protocol.specs.Machine.{Runs}
use Rattle.protocol.specs.Start.{start}
use Rattle.hart.specs.Parts.{Parts}
use Rattle.machine.specs.States.{State, shown}
use Rattle.machine.specs.Unused.{IsUnused}
use Rattle.machine.specs.Lent.{hart_if, with_hart}
use Rattle.schedule.specs.declared.choices.Choice.{Choice}
use Rattle.schedule.specs.declared.choices.Choice.TheVariants.{Core}
use Rattle.schedule.specs.Runs.{Makes}
use Rattle.schedule.specs.Steps.{IsChoiceOf}
use Rattle.schedule.specs.Written.{IsWritable}
use Rattle.board.specs.Leases.{most_steps, Lent, IsLentFrom, FitsIn}
use Rattle.board.specs.Histories.{Told, TellsStill, TellsMore, Leads, first_flat, one_step, core_steps}
use Rattle.board.specs.declared.refusal.Refusal.{Refusal}
use Rattle.board.specs.declared.refusal.Refusal.TheVariants.{Stale, NoMemory}

-- a program with a number of harts and of bytes of memory, the machine, and the journal
pub record Held (J : Type 0) : Type 0 where
  pub program : Program
  pub harts : ℕ
  pub size : ℕ
  pub machine : State
  pub journal : J

-- hart i is one that runs
abbrev pub IsRunning : State → ℕ → Type 0
IsRunning m i = (h : Parts) × (hart_if m i ≡ Some h) × (h.status ≡ Running)

module _ {J : Type 0} where
  -- the board that a program begins with
  pub record IsFirst (g : Geometry) (p : Program) (n size : ℕ) (journal : J) (b : Held J) : Type 0 where
    pub boots : boot_fault p.segments n size ≡ None
    pub machine : shown g.sets b.machine ≡ start (first_flat p n size).setting p.entry
    pub unused : IsUnused g b.machine
    pub bytes : AreBytes p.segments
    pub rest : b ≡ record { program = p; harts = n; size = size; machine = b.machine; journal = journal }

  -- the board as it was, though its journal may have got room
  pub record IsAsBefore (tells : J → Told → Type 0) (b c : Held J) : Type 0 where
    pub told : TellsStill tells b.journal c.journal
    pub rest : c ≡ record b { journal = c.journal }

  -- a step is made, enabled or not, with this entry, if it gives one, and is told with the choice that it was, if it was one
  pub record IsTurn (g : Geometry) (tells : J → Told → Type 0) (b : Held J) (step : Step) (choice : Option Choice) (e : Option Entry) (c : Held J) : Type 0 where
    pub made : Makes g b.machine (Some step) e c.machine
    pub chosen : (x : Choice) → choice ≡ Some x → IsChoiceOf g.sets b.machine step x
    pub writable : (x : Choice) → choice ≡ Some x → IsWritable x
    pub told : TellsMore tells b.journal (one_step step e choice) c.journal
    pub rest : c ≡ record b { machine = c.machine; journal = c.journal }

-- Leases

module _ {J T : Type 0} where
  -- hart i as it is, lent with no step made
  abbrev pub IsLent : (T → List Entry → Type 0) → Held J → ℕ → Lent T → Type 0
  IsLent traces b i l = IsLentFrom traces b.program b.harts b.size b.machine i l

  -- a lease of this board whose hart is still as it was lent
  abbrev pub Fits : Held J → Lent T → Type 0
  Fits b l = FitsIn b.program b.harts b.size b.machine l

  -- the board when a lease is settled: the hart is what it has become, by steps of its core, and these, with their entries, are told
  pub record IsSettled (g : Geometry) (tells : J → Told → Type 0) (traces : T → List Entry → Type 0) (b : Held J) (l : Lent T) (c : Held J) : Type 0 where
    pub few : l.id < most_harts
    pub short : l.steps ≤ most_steps
    pub entries : List Entry
    pub traced : traces l.trace entries
    pub count : length entries ≡ l.steps
    pub runs : Runs g (shown g.sets b.machine) (replicate (length entries) (step.Core l.id)) entries (shown g.sets c.machine)
    pub leads : Leads g (replicate (length entries) (Core l.id)) b.machine entries c.machine
    pub told : TellsMore tells b.journal (core_steps l.id entries) c.journal
    pub rest : c ≡ record b { machine = with_hart b.machine l.id l.after; journal = c.journal }

  -- a lease is stale if it doesn't fit; only one that fits is refused for want of memory
  abbrev pub IsRefusedFor : Held J → Lent T → Refusal → Type 0
  IsRefusedFor b l Stale = Fits b l → ⊥
  IsRefusedFor b l NoMemory = Fits b l

  -- a lease that is settled fitted; one that is refused leaves the board as it was, though its journal may have got room
  abbrev pub Settles : Geometry → (J → Told → Type 0) → (T → List Entry → Type 0) → Held J → Lent T → Result Unit Refusal → Held J → Type 0
  Settles g tells traces b l (Ok u) c = Fits b l × IsSettled g tells traces b l c
  Settles g tells traces b l (Err why) c = IsRefusedFor b l why × IsAsBefore tells b c

  -- hart i is lent if and only if it runs
  abbrev pub Lends : (T → List Entry → Type 0) → ℕ → Held J → Option (Lent T) → Type 0
  Lends traces i b (Some l) = IsLent traces b i l
  Lends traces i b None = IsRunning b.machine i → ⊥

  -- hart i is lent in place of a lease if it runs, and else the lease stays
  abbrev pub LendsAgain : (T → List Entry → Type 0) → ℕ → Held J → Lent T → Bool → Lent T → Type 0
  LendsAgain traces i b l true m = IsLent traces b i m
  LendsAgain traces i b l false m = (IsRunning b.machine i → ⊥) × (m ≡ l)
