-- The steps that have led to a machine, as a journal tells them.
use Rattle.std.specs.Prelude.{ℕ, ◌≡◌, ◌-◌, ◌++◌, All, List, [], ◌∷◌, length, replicate, option_to_list, Option, Some, None}
use Rattle.std.specs.Option.{option_map}
use Rattle.words.specs.declared.entry.Entry.{Entry}
use Rattle.words.specs.declared.entry.Step.{Step}
use Rattle.words.specs.declared.entry.Step.TheVariants as step
use Rattle.loader.specs.Programs.{Program}
use Rattle.flat.specs.State.{Flat}
use Rattle.flat.specs.Steps.{IsRun}
use Rattle.flat.specs.Boots.{boot_fault, booted}
use Rattle.protocol.specs.Caches.{Geometry}
use Rattle.protocol.specs.Start.{start}
use Rattle.protocol.specs.Machine.{Runs}
use Rattle.isolation.specs.Belongs.{Belongs}
use Rattle.isolation.specs.Reasons.{HaveReasons}
use Rattle.machine.specs.States.{State, setting_of, shown}
use Rattle.machine.specs.Unused.{IsUnused}
use Rattle.board.specs.Leases.{Lent}
use Rattle.schedule.specs.declared.choices.Choice.{Choice}
use Rattle.schedule.specs.declared.choices.Choice.TheVariants.{Core}
use Rattle.schedule.specs.Moments.{Moment, entries_of}
use Rattle.schedule.specs.Runs.{Follows}
use Rattle.schedule.specs.Written.{IsWritable}

-- Choices

-- as many steps by a schedule of choices, whosever the last core step was, lead from one machine to another, with these entries
abbrev pub Leads : Geometry → List Choice → State → List Entry → State → Type 0
Leads g choices v es w = (ms : List Moment) × (es ≡ entries_of ms) × ((after : ℕ) → Follows g choices (length choices) v after ms w)

-- What is told

-- steps, their entries, and the choices that the steps were, if each of them was one
pub record Told : Type 0 where
  pub steps : List Step
  pub entries : List Entry
  pub choices : Option (List Choice)

abbrev pub no_step : Told
no_step = record { steps = []; entries = []; choices = Some [] }

-- a step, with its entry, if it gave one, and the choice that it was, if it was one
abbrev pub one_step : Step → Option Entry → Option Choice → Told
one_step step e c = record { steps = step ∷ []; entries = option_to_list e; choices = option_map (λ x. x ∷ []) c }

-- steps of a hart's core, each of which gave one of these entries
abbrev pub core_steps : ℕ → List Entry → Told
core_steps i es = record { steps = replicate (length es) (step.Core i); entries = es; choices = Some (replicate (length es) (Core i)) }

-- choices, if all are known, and others behind them
abbrev pub both : Option (List Choice) → Option (List Choice) → Option (List Choice)
both (Some cs) (Some ds) = Some (cs ++ ds)
both cs ds = None

-- what was told, and more behind it
abbrev pub told_then : Told → Told → Told
told_then a b = record { steps = a.steps ++ b.steps; entries = a.entries ++ b.entries; choices = both a.choices b.choices }

-- each step was a choice
abbrev pub IsChosen : Told → Type 0
IsChosen told = (choices : List Choice) × (told.choices ≡ Some choices)

-- just these steps, with these entries
abbrev pub IsOf : List Step → List Entry → Told → Type 0
IsOf steps es told = (told.steps ≡ steps) × (told.entries ≡ es)

module _ {J : Type 0} where
  -- what a journal told it tells still
  abbrev pub TellsStill : (J → Told → Type 0) → J → J → Type 0
  TellsStill tells x y = (told : Told) → tells x told → tells y told

  -- and behind it this
  abbrev pub TellsMore : (J → Told → Type 0) → J → Told → J → Type 0
  TellsMore tells x more y = (told : Told) → tells x told → tells y (told_then told more)

-- the steps that a lease's hart has made by itself, with the entries that its trace tells, lead from one machine to another, and so do their choices
abbrev pub LeadsAlone : {T : Type 0} → Geometry → (T → List Entry → Type 0) → State → Lent T → State → Type 0
LeadsAlone g traces v l w = (es : List Entry) × traces l.trace es × (length es ≡ l.steps)
    × Runs g (shown g.sets v) (replicate (length es) (step.Core l.id)) es (shown g.sets w) × Leads g (replicate (length es) (Core l.id)) v es w

-- What has led to a machine

-- the flat state that a program with so many harts and bytes of memory begins in
abbrev pub first_flat : Program → ℕ → ℕ → Flat
first_flat p n size = booted p.segments p.entry n size

-- a program that can be booted with so many harts and bytes of memory: from its start the steps in order, each one of the protocol's, can
-- lead to this machine, with these entries
pub record IsReplay (g : Geometry) (p : Program) (n size : ℕ) (steps : List Step) (m : State) (es : List Entry) : Type 0 where
  pub boots : boot_fault p.segments n size ≡ None
  pub runs : Runs g (start (first_flat p n size).setting p.entry) steps es (shown g.sets m)

-- as many steps by a schedule of choices lead to this machine, with these entries, from where a program begins that can be booted with so
-- many harts and bytes of memory, and where no step was made. A schedule's line can name each choice
pub record IsCourse (g : Geometry) (p : Program) (n size : ℕ) (choices : List Choice) (es : List Entry) (m : State) : Type 0 where
  pub boots : boot_fault p.segments n size ≡ None
  pub first : State
  pub starts : shown g.sets first ≡ start (first_flat p n size).setting p.entry
  pub writable : All IsWritable choices
  pub unused : IsUnused g first
  pub moments : List Moment
  pub given : es ≡ entries_of moments
  pub follows : Follows g choices (length choices) first ((setting_of first).count - 1) moments m

-- the same of choices that are known
abbrev pub IsCourseIf : Geometry → Program → ℕ → ℕ → Option (List Choice) → List Entry → State → Type 0
IsCourseIf g p n size (Some choices) es m = IsCourse g p n size choices es m
IsCourseIf g p n size None es m = Unit {0}

-- what is told has led to this machine
pub record IsKept (g : Geometry) (p : Program) (n size : ℕ) (tells : Told → Type 0) (m : State) : Type 0 where
  pub all : Told
  pub told : tells all
  pub replay : IsReplay g p n size all.steps m all.entries
  pub course : IsCourseIf g p n size all.choices all.entries m

-- and its entries are a run of the flat machine, to a state that belongs to the machine. Each of them has its reason
pub record IsEnd (g : Geometry) (p : Program) (n size : ℕ) (tells : Told → Type 0) (m : State) : Type 0 where
  pub kept : IsKept g p n size tells m
  pub flat : Flat
  pub runs : IsRun (first_flat p n size) kept.all.entries flat
  pub reasons : HaveReasons (first_flat p n size) kept.all.entries
  pub belongs : Belongs g flat (shown g.sets m)
