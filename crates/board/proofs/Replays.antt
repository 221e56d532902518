-- A replay with more steps, and what follows from one.
use Rattle.std.proofs.Common.{◌≡◌, ℕ, Option, Some, None, Result, Ok, Err, List, [], ◌∷◌, ◌++◌, refl, ap, subst, ◌∙◌}
use Rattle.words.specs.declared.entry.Entry.{Entry}
use Rattle.words.specs.declared.entry.Step.{Step}
use Rattle.table.specs.Program.{AreBytes}
use Rattle.loader.specs.Programs.{Program}
use Rattle.flat.specs.State.{Setting, Flat}
use Rattle.flat.specs.Steps.{IsRun}
use Rattle.flat.specs.Boots.{boot_fault}
use Rattle.flat.specs.declared.boot_fault.BootFault.{BootFault}
use Rattle.protocol.specs.Caches.{Geometry}
use Rattle.protocol.specs.Start.{start}
use Rattle.protocol.specs.Machine.{Machine, Runs}
use Rattle.protocol.proofs.Settings.{setting_stays}
use Rattle.protocol.proofs.Splits.{runs_then}
use Rattle.isolation.specs.Belongs.{Belongs}
use Rattle.isolation.specs.Reasons.{HaveReasons}
use Rattle.isolation.proofs.Belongs.Belonging.{belongs_after}
use Rattle.isolation.proofs.Reached.{have_reasons}
use Rattle.isolation.proofs.Leading.{bytes_of}
use Rattle.machine.specs.States.{State, shown}
use Rattle.machine.specs.Unused.{IsUnused}
use Rattle.board.specs.Histories.{first_flat, IsReplay}

-- a run changes neither text, size nor the number of harts
pub run_settings : (g : Geometry) (v w : Machine) (ss : List Step) (es : List Entry) → Runs g v ss es w → w.setting ≡ v.setting
run_settings g v w [] es r = ap (λ m. m.setting) r.1
run_settings g v w (s ∷ ss) es r = run_settings g r.0 w ss r.2 r.4 ∙ setting_stays g v r.0 s r.1 r.3

-- so the machine of a replay has the program's segments
pub replay_segments : (g : Geometry) (p : Program) (n size : ℕ) (steps : List Step) (m : State) (es : List Entry) → IsReplay g p n size steps m es → m.program.segments ≡ p.segments
replay_segments g p n size steps m es r =
    ap (λ (s : Setting). s.segments) (run_settings g (start (first_flat p n size).setting p.entry) (shown g.sets m) steps es r.runs)

-- a program that isn't refused boots
pub boots_if_ok : {A : Type 0} (o : Option BootFault) (r : Result A BootFault) (a : A) → ((e : BootFault) → o ≡ Some e → r ≡ Err e) → r ≡ Ok a → o ≡ None
boots_if_ok None r a refused is = refl
boots_if_ok (Some e) r a refused is = let err : r ≡ Err e = refused e refl in absurd (cc)

-- a machine that a program begins with
pub record Begins (g : Geometry) (p : Program) (n size : ℕ) (m : State) : Type 0 where
  pub boots : boot_fault p.segments n size ≡ None
  pub machine : shown g.sets m ≡ start (first_flat p n size).setting p.entry
  pub unused : IsUnused g m
  pub bytes : AreBytes p.segments

-- that of a copy is one of the program
pub begins_of_copy : (g : Geometry) (p q : Program) (n size : ℕ) (m : State) → q ≡ p → ((e : BootFault) → boot_fault q.segments n size ≡ Some e → ◌≡◌ {A = Result State BootFault} (Ok m) (Err e))
    → (boot_fault q.segments n size ≡ None → shown g.sets m ≡ start (first_flat q n size).setting q.entry) → Belongs g (first_flat q n size) (shown g.sets m) → IsUnused g m → Begins g p n size m
begins_of_copy g p q n size m copied refused accepted belongs unused =
    let boots : boot_fault q.segments n size ≡ None = boots_if_ok {A = State} (boot_fault q.segments n size) (Ok m) m refused refl in
    let machine = accepted boots in
    subst (λ (r : Program). Begins g r n size m) copied (record {
      boots = boots;
      machine = machine;
      unused = unused;
      bytes = bytes_of g (first_flat q n size) (first_flat q n size).setting q.entry (shown g.sets m) machine belongs;
    })

-- no step
pub replay_none : (g : Geometry) (p : Program) (n size : ℕ) (m : State) → Begins g p n size m → IsReplay g p n size [] m []
replay_none g p n size m b = record { boots = b.boots; runs = (refl, b.machine) }

-- more steps
pub replay_more : (g : Geometry) (p : Program) (n size : ℕ) (steps more : List Step) (m next : State) (es fs : List Entry)
    → IsReplay g p n size steps m es → Runs g (shown g.sets m) more fs (shown g.sets next) → IsReplay g p n size (steps ++ more) next (es ++ fs)
replay_more g p n size steps more m next es fs r runs = record {
  boots = r.boots;
  runs = runs_then g (start (first_flat p n size).setting p.entry) (shown g.sets m) (shown g.sets next) steps more es fs r.runs runs;
}

-- the entries of a replay are a run of the flat machine, with their reasons, and where it ends belongs to the machine
pub replay_flat : (g : Geometry) (p : Program) (n size : ℕ) (steps : List Step) (m : State) (es : List Entry) → AreBytes p.segments → IsReplay g p n size steps m es
    → (f : Flat) × IsRun (first_flat p n size) es f × HaveReasons (first_flat p n size) es × Belongs g f (shown g.sets m)
replay_flat g p n size steps m es bytes r =
    let after = belongs_after g (first_flat p n size).setting p.entry steps es (shown g.sets m) bytes r.runs in
    (after.0, after.1, have_reasons g (first_flat p n size).setting p.entry steps es (shown g.sets m) bytes r.runs, after.2)
