-- Which flat states belong to a machine.
use Rattle.std.specs.Prelude.{ℕ, ◌≡◌, List, IsSome, IsSomeAnd}
use Rattle.words.specs.declared.entry.Entry.{Entry}
use Rattle.words.specs.declared.entry.Step.{Step}
use Rattle.table.specs.Program.{AreBytes}
use Rattle.flat.specs.State.{Setting, Flat, FlatHart}
use Rattle.flat.specs.Start.{first_state}
use Rattle.flat.specs.Steps.{IsRun}
use Rattle.protocol.specs.Hart.{Hart}
use Rattle.protocol.specs.Caches.{Geometry}
use Rattle.protocol.specs.Machine.{Machine, Runs}
use Rattle.protocol.specs.Start.{start}

-- from the start of a program, whatever its memory and its number of harts, steps lead to this machine, and their entries lead the
-- flat machine to this state
pub record Belongs (g : Geometry) (f : Flat) (w : Machine) : Type 0 where
  pub setting : Setting
  pub entry : ℕ
  pub bytes : AreBytes setting.segments
  pub steps : List Step
  pub entries : List Entry
  pub run : Runs g (start setting entry) steps entries w
  pub flat_run : IsRun (first_state setting entry) entries f

-- the same where the steps have given these entries
abbrev pub BelongsAfter : Geometry → List Entry → Flat → Machine → Type 0
BelongsAfter g past f w = (b : Belongs g f w) × (b.entries ≡ past)

-- what a hart is to one who looks from outside
pub record LooksAs (h : Hart) (f : FlatHart) : Type 0 where
  pub regs : h.regs ≡ f.regs
  pub pc : h.pc ≡ f.pc
  pub status : h.status ≡ f.status
  pub output : h.output ≡ f.output

-- a hart is in the middle of an abort
abbrev pub IsAborting : Hart → Type 0
IsAborting h = IsSomeAnd h.tx (λ t. IsSome t.aborting)
