-- How a run begins.
use Rattle.std.specs.Prelude.{ℕ, ◌≡◌, ◌⊎◌, List, Some, None}
use Rattle.loader.specs.Programs.{Program}
use Rattle.flat.specs.Boots.{boot_fault, booted}
use Rattle.flat.specs.State.{Flat}
use Rattle.flat.specs.declared.boot_fault.BootFault.{BootFault}
use Rattle.protocol.specs.Caches.{Geometry}
use Rattle.protocol.specs.Start.{start}
use Rattle.isolation.specs.Belongs.{Belongs}
use Rattle.machine.specs.States.{State, shown}
use Rattle.machine.specs.Unused.{IsUnused}
use Rattle.command_line.specs.declared.request.Setup.{Setup}
use Rattle.requests.specs.Sources.{IsProgramIn, IsProgramFault}
use Rattle.requests.specs.declared.fault.Fault.{Fault}
use Rattle.requests.specs.declared.fault.Fault.TheVariants.{Boot, NoMemory}

-- the flat state that a program begins in, booted as is asked
abbrev pub flat_start : Program → Setup → Flat
flat_start p setup = booted p.segments p.entry setup.harts setup.memory

-- the machine that a program begins in, booted as is asked: no step was made of it
pub record IsFirstOf (g : Geometry) (p : Program) (setup : Setup) (m : State) : Type 0 where
  pub boots : boot_fault p.segments setup.harts setup.memory ≡ None
  pub begins : shown g.sets m ≡ start (flat_start p setup).setting p.entry
  pub unused : IsUnused g m

-- the file has a program, which begins in this machine, and the flat machine's first state belongs to it
pub record IsStartOf (g : Geometry) (setup : Setup) (file : List ℕ) (m : State) : Type 0 where
  pub program : Program
  pub holds : IsProgramIn setup.file.now file program
  pub first : IsFirstOf g program setup m
  pub belongs : Belongs g (flat_start program setup) (shown g.sets m)

-- the file has a program, which can't be booted as is asked, for this fault
pub record IsUnbooted (setup : Setup) (file : List ℕ) (fault : BootFault) : Type 0 where
  pub program : Program
  pub holds : IsProgramIn setup.file.now file program
  pub refused : boot_fault program.segments setup.harts setup.memory ≡ Some fault

-- why there is no machine: the file has no program, the program can't be booted, or memory ran out
abbrev pub IsStartFault : Setup → List ℕ → Fault → Type 0
IsStartFault setup file fault = IsProgramFault setup.file.now file fault ⊎ (((b : BootFault) × IsUnbooted setup file b × (fault ≡ Boot b)) ⊎ (fault ≡ NoMemory))
