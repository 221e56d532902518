-- How a run begins.
use Rattle.std.proofs.Common.{◌≡◌, ℕ, List, Option, Some, None, Result, Ok, Err, ◌⊎◌, inl, inr, MatchResult, refl}
use Rattle.std.proofs.lemmas.Result.{MatchResult-at_err}
use Rattle.loader.specs.Programs.{Program}
use Rattle.flat.specs.Boots.{boot_fault}
use Rattle.flat.specs.declared.boot_fault.BootFault.{BootFault}
use Rattle.flat.specs.declared.boot_fault.BootFault.TheVariants as boot
use Rattle.command_line.specs.declared.request.Setup.{Setup}
use Rattle.requests.specs.Faults.{of_boot}
use Rattle.requests.specs.Sources.{IsProgramIn}
use Rattle.requests.specs.Starts.{IsStartFault}

-- what was booted had no fault
pub booted-no_fault : {S : Type 0} (o : Option BootFault) (r : Result S BootFault) (m : S) → r ≡ Ok m → ((e : BootFault) → o ≡ Some e → r ≡ Err e) → o ≡ None
booted-no_fault None r m ok refused = refl
booted-no_fault (Some e) r m ok refused = let err = refused e refl in absurd (cc)

-- a boot that failed wanted memory, or had this fault
pub refused-fault : {S : Type 0} (o : Option BootFault) (r : Result S BootFault) (b : BootFault) (P : S → Type 0) → r ≡ Err b → ((e : BootFault) → o ≡ Some e → r ≡ Err e) → (o ≡ None → MatchResult r P (λ e. e ≡ boot.NoMemory)) → (b ≡ boot.NoMemory) ⊎ (o ≡ Some b)
refused-fault None r b P err refused accepted = inl (MatchResult-at_err P (λ e. e ≡ boot.NoMemory) b err (accepted refl))
refused-fault (Some e) r b P err refused accepted = let same = refused e refl in inr (cc)

-- the fault of a boot, told to the user
pub boot-start_fault : (setup : Setup) (file : List ℕ) (p : Program) (b : BootFault) → IsProgramIn setup.file.now file p → (b ≡ boot.NoMemory) ⊎ (boot_fault p.segments setup.harts setup.memory ≡ Some b) → IsStartFault setup file (of_boot b)
boot-start_fault setup file p boot.BadSize holds h = elim h [ inl e ↦ absurd (cc) | inr e ↦ inr (inl (boot.BadSize, record { program = p; holds = holds; refused = e }, refl)) ]
boot-start_fault setup file p boot.BadHarts holds h = elim h [ inl e ↦ absurd (cc) | inr e ↦ inr (inl (boot.BadHarts, record { program = p; holds = holds; refused = e }, refl)) ]
boot-start_fault setup file p boot.DoesNotFit holds h = elim h [ inl e ↦ absurd (cc) | inr e ↦ inr (inl (boot.DoesNotFit, record { program = p; holds = holds; refused = e }, refl)) ]
boot-start_fault setup file p boot.NoMemory holds h = inr (inr refl)
