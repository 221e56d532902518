-- Why a conditional store (SC) fails in the coherent machine: over its steps, since no entry tells that an unmarked line was given up.
use Rattle.std.specs.Prelude.{ℕ, ◌≡◌, ◌≢◌, ◌/◌, ◌⊎◌, Option, Some, None, List, [], ◌∷◌, ◌++◌, option_to_list, IsSome}
use Rattle.words.specs.declared.entry.Entry.{Entry}
use Rattle.words.specs.declared.entry.Entry.TheVariants.{Retire}
use Rattle.words.specs.declared.entry.Step.{Step}
use Rattle.words.specs.declared.entry.Step.TheVariants.{Core, Evict, Deliver}
use Rattle.words.specs.declared.message.Kind.TheVariants.{Write}
use Rattle.words.specs.declared.stamp.Stamp.{Stamp}
use Rattle.table.specs.declared.instr.Instr.{Instr}
use Rattle.table.specs.declared.instr.Instr.TheVariants as instr
use Rattle.table.specs.declared.effect.Act.{Act}
use Rattle.table.specs.declared.effect.Act.TheVariants as act
use Rattle.table.specs.Table.{decoded}
use Rattle.flat.specs.Reservations.{reservations_of}
use Rattle.protocol.specs.Messages.{Forward}
use Rattle.protocol.specs.Caches.{Geometry}
use Rattle.protocol.specs.Machine.{Machine, Steps, Runs}

-- the act is a conditional store to block b
abbrev pub StoresIfReserved : ℕ → Act → Type 0
StoresIfReserved b (act.Conditional rd m) = m.addr / 32 ≡ b
StoresIfReserved b _ = ⊥

-- a word is LR
abbrev pub IsLoadReserved : Option Instr → Type 0
IsLoadReserved None = ⊥
IsLoadReserved (Some x) = elim x [ instr.LoadReserved rd rs1 aq rl ↦ Unit {0} | _ ↦ ⊥ ]

-- an entry is an LR of hart i
abbrev pub IsReservingBy : ℕ → Entry → Type 0
IsReservingBy i (Retire j pc word write load store) = (j ≡ i) × IsLoadReserved (decoded word)
IsReservingBy i _ = ⊥

-- none of the entries is one
abbrev pub NoneReserves : ℕ → List Entry → Type 0
NoneReserves i [] = Unit {0}
NoneReserves i (e ∷ es) = (IsReservingBy i e → ⊥) × NoneReserves i es

-- a step of machine v may take hart i's line of block b: it evicts the line, or makes way in the hart's cache for another, or brings it the request of another hart that
-- wants to store
abbrev pub MayTakeLine : Machine → Step → ℕ → ℕ → Type 0
MayTakeLine v (Evict j c) i b = (j ≡ i) × (c ≡ b)
MayTakeLine v (Core j) i b = j ≡ i
MayTakeLine v (Deliver key) i b = (requester : ℕ) × (stamp : Option Stamp) × (v.net key ≡ Some (Forward i b Write requester stamp))

-- a step from machine v to w takes it
pub record TakesLine (v : Machine) (s : Step) (w : Machine) (i b : ℕ) : Type 0 where
  pub why : MayTakeLine v s i b
  pub had : IsSome ((v.harts i).lines b)
  pub gone : (w.harts i).lines b ≡ None

-- in a run from machine first to last, hart i lost its line of block b in one of the steps, while it had reserved the block by the entries before it; and no LR of the
-- hart has come after it
pub record LostReserved (g : Geometry) (first : Machine) (steps : List Step) (es : List Entry) (last : Machine) (i b : ℕ) : Type 0 where
  pub earlier : List Step
  pub step : Step
  pub later : List Step
  pub before : List Entry
  pub entry : Option Entry
  pub after : List Entry
  pub from : Machine
  pub to : Machine
  pub all_steps : steps ≡ earlier ++ step ∷ later
  pub all_entries : es ≡ before ++ option_to_list entry ++ after
  pub led : Runs g first earlier before from
  pub stepped : Steps g from step entry to
  pub leads : Runs g to later after last
  pub reserved : reservations_of before i ≡ Some b
  pub lost : TakesLine from step to i b
  pub none_since : NoneReserves i after

-- why a conditional store of hart i to block b fails after these steps and entries: the entries say that the block isn't reserved, or its line was lost since it was reserved
abbrev pub FailureHasReason : Geometry → Machine → List Step → List Entry → Machine → ℕ → ℕ → Type 0
FailureHasReason g first steps es last i b = (reservations_of es i ≢ Some b) ⊎ LostReserved g first steps es last i b
