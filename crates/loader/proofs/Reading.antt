-- What was read is what the file says, and what the file says is read.
use Rattle.std.proofs.Common.{◌≡◌, ◌≢◌, Some, ℕ, List, Option, None, Result, Ok, Err, ◌⊎◌, inl, inr, refl, sym, ap, subst, ◌∙◌}
use Rattle.std.specs.Prelude.{IfOk}
use Rattle.std.specs.Result.{IfErr}
use Rattle.loader.specs.declared.fault.LoadFault.{LoadFault}
use Rattle.loader.specs.declared.fault.LoadFault.TheVariants.{NoMemory}
use Rattle.loader.specs.Checks.{fault_of, IsFault}
use Rattle.loader.specs.Programs.{Program}
use Rattle.loader.specs.Elf.{IsElfOf, program_of}
use Rattle.std.proofs.lemmas.Result.{IfErr-weaker}
use Rattle.loader.proofs.Found.{IsFault-found}
use Rattle.loader.proofs.Clean.{IsElfOf-clean, IsElfOf-one, IsElfOf-passes}

pub is_elf : (bytes : List ℕ) (r : Result Program LoadFault) → IfOk r (λ p. (fault_of bytes ≡ None) × (p ≡ program_of bytes)) → IfOk r (λ p. IsElfOf bytes p)
is_elf bytes (Ok p) h = subst (IsElfOf bytes) (sym h.1) (IsElfOf-clean bytes h.0)
is_elf bytes (Err fault) h = tt

-- where nothing is found, the only answer is that memory ran out
only_memory : (fault : LoadFault) (found : Option LoadFault) → found ≡ None → IsFault fault found → fault ≡ NoMemory
only_memory NoMemory found e h = refl
only_memory fault found e h = absurd cc

pub is_read : (bytes : List ℕ) (r : Result Program LoadFault) → IfOk r (λ p. (fault_of bytes ≡ None) × (p ≡ program_of bytes)) → IfErr r (λ fault. IsFault fault (fault_of bytes)) → (p : Program) → IsElfOf bytes p → (r ≡ Ok p) ⊎ (r ≡ Err NoMemory)
is_read bytes (Ok q) ok err p elf = inl (ap (λ (x : Program). Ok x) (ok.1 ∙ sym (IsElfOf-one bytes p elf)))
is_read bytes (Err fault) ok err p elf = inr (ap (λ (x : LoadFault). Err x) (only_memory fault (fault_of bytes) (IsElfOf-passes bytes p elf) err))

-- a fault that isn't that memory ran out was found
pub was_found : (bytes : List ℕ) (r : Result Program LoadFault) → IfErr r (λ fault. IsFault fault (fault_of bytes)) → IfErr r (λ fault. fault ≢ NoMemory → fault_of bytes ≡ Some fault)
was_found bytes r h = IfErr-weaker r (λ fault. IsFault fault (fault_of bytes)) (λ fault. fault ≢ NoMemory → fault_of bytes ≡ Some fault) (λ fault e. IsFault-found fault (fault_of bytes) e) h
