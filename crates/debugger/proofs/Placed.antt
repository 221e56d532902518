-- A step of a core that is there is the command's.
use Rattle.std.proofs.Common.{◌≡◌, ◌∙◌, ℕ, Option, Some, None, Result, Ok, Err, refl, sym, ap, subst}
use Rattle.std.specs.Prelude.{MatchResult}
use Rattle.protocol.specs.Caches.{Geometry}
use Rattle.machine.specs.States.{State, setting_of}
use Rattle.schedule.specs.declared.choices.Choice.TheVariants as choice
use Rattle.debugger.specs.declared.commands.command.Command.TheVariants as command
use Rattle.debugger.specs.declared.commands.fault.DebugFault.{DebugFault}
use Rattle.debugger.specs.declared.commands.fault.DebugFault.TheVariants.{NoMemory}
use Rattle.debugger.specs.declared.report.Report.{Report}
use Rattle.debugger.specs.Refusals.{unless, hart_fault}
use Rattle.debugger.specs.Sessions.{Session, Chooses, LacksRoom, IsPlaced, Does, Fails}

-- a number that isn't refused
not_refused : (o : Option DebugFault) (x y : ℕ) → unless o x ≡ Ok y → (o ≡ None) × (y ≡ x)
not_refused None x y is = (refl, let same : ◌≡◌ {A = Result ℕ DebugFault} (Ok x) (Ok y) = is in cc)
not_refused (Some f) x y is = absurd (let same : ◌≡◌ {A = Result ℕ DebugFault} (Err f) (Ok y) = is in cc)

of_core : (g : Geometry) (s t : Session) (h : ℕ) (r : Result Report DebugFault) → IsPlaced s (command.Core h)
    → MatchResult r (λ report. Chooses g s (choice.Core h) report t) (λ f. (f ≡ NoMemory) × LacksRoom g s (choice.Core h) t)
    → MatchResult r (λ report. Does g s (command.Core h) report t) (λ f. Fails g s (command.Core h) f t)
of_core g s t h (Ok report) placed chooses = (placed, chooses)
of_core g s t h (Err f) placed (lacked, lacks) = subst (λ (e : DebugFault). Fails g s (command.Core h) e t) (sym lacked) (placed, lacks)

pub told_core : (g : Geometry) (s t : Session) (m : State) (h n : ℕ) (found : Result ℕ DebugFault) (r : Result Report DebugFault) → m ≡ s.machine
    → found ≡ Ok n → found ≡ unless (hart_fault (setting_of m) h) h
    → MatchResult r (λ report. Chooses g s (choice.Core n) report t) (λ f. (f ≡ NoMemory) × LacksRoom g s (choice.Core n) t)
    → MatchResult r (λ report. Does g s (command.Core h) report t) (λ f. Fails g s (command.Core h) f t)
told_core g s t m h n found r same ok is told =
    let fine = not_refused (hart_fault (setting_of m) h) h n (sym is ∙ ok) in
    of_core g s t h r (subst (λ (m : State). hart_fault (setting_of m) h ≡ None) same fine.0)
    (subst (λ (k : ℕ). MatchResult r (λ report. Chooses g s (choice.Core k) report t) (λ f. (f ≡ NoMemory) × LacksRoom g s (choice.Core k) t)) fine.1 told)
