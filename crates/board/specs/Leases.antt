-- What contracts see of a lease: a hart that is lent out, makes steps by itself, and comes back.
use Rattle.std.specs.Prelude.{ℕ, ◌≡◌, List, [], ◌++◌, length, Some}
use Rattle.words.specs.declared.cause.Status.TheVariants.{Running}
use Rattle.words.specs.declared.entry.Entry.{Entry}
use Rattle.table.specs.Program.{Segment}
use Rattle.loader.specs.Programs.{Program}
use Rattle.hart.specs.Parts.{Parts}
use Rattle.machine.specs.States.{State}
use Rattle.machine.specs.Lent.{hart_if, RunsAlone}

-- the most steps that any lease has
abbrev pub most_steps : ℕ
most_steps = 4096

-- a hart, in a cache of so many sets, has retired so many words by itself, with entries of which this is true, and is then the other
pub record HasRun (sets : ℕ) (Traced : List Entry → Type 0) (segments : List Segment) (steps : ℕ) (old new : Parts) : Type 0 where
  pub entries : List Entry
  pub traced : Traced entries
  pub count : length entries ≡ steps
  pub run : RunsAlone sets segments old entries new

module _ {T : Type 0} where
  -- behind the entries that a trace had, it has these
  abbrev pub TracesMore : (T → List Entry → Type 0) → T → List Entry → T → Type 0
  TracesMore traces x es y = (before : List Entry) → traces x before → traces y (before ++ es)

-- the program, the number of harts and the bytes of memory of the machine that the hart was lent from; its number; the hart as it was lent, and
-- as it is now; how many steps it has made since; and what is kept of their entries
pub record Lent (T : Type 0) : Type 0 where
  pub program : Program
  pub harts : ℕ
  pub size : ℕ
  pub id : ℕ
  pub before : Parts
  pub after : Parts
  pub steps : ℕ
  pub trace : T

module _ {T : Type 0} where
  -- a hart lent with no step made
  pub record IsNew (traces : T → List Entry → Type 0) (p : Program) (n size i : ℕ) (hart : Parts) (l : Lent T) : Type 0 where
    pub traced : traces l.trace []
    pub rest : l ≡ record { program = p; harts = n; size = size; id = i; before = hart; after = hart; steps = 0; trace = l.trace }

  -- hart i of a machine of this program, number of harts and size of memory, as it is, lent with no step made
  pub record IsLentFrom (traces : T → List Entry → Type 0) (p : Program) (n size : ℕ) (m : State) (i : ℕ) (l : Lent T) : Type 0 where
    pub hart : hart_if m i ≡ Some l.before
    pub runs : l.before.status ≡ Running
    pub is_new : IsNew traces p n size i l.before l

  -- a lease of this program, number of harts and size of memory, whose hart is still as it was lent, in all that it keeps
  pub record FitsIn (p : Program) (n bytes : ℕ) (m : State) (l : Lent T) : Type 0 where
    pub program : l.program ≡ p
    pub harts : l.harts ≡ n
    pub size : l.size ≡ bytes
    pub hart : hart_if m l.id ≡ Some l.before
