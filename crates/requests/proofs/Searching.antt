-- A search of the program in a file.
use Rattle.std.proofs.Common.{◌≡◌, ◌<◌, ℕ, List, [], ◌∷◌, Some, None, Option, ◌⊎◌, inl, inr, length, refl, ap, subst, arith}
use Rattle.std.specs.Prelude.{slice_get, Result, Err, IfErr}
use Rattle.loader.specs.Programs.{Program}
use Rattle.flat.specs.Boots.{boot_fault}
use Rattle.flat.specs.declared.boot_fault.BootFault.{BootFault}
use Rattle.flat.specs.declared.boot_fault.BootFault.TheVariants as boot
use Rattle.isolation.specs.Moves.{Place}
use Rattle.outcomes.specs.declared.breadth_first.Outcomes.{Outcomes}
use Rattle.outcomes.specs.declared.pool.State.{State}
use Rattle.outcomes.specs.Searches.{setting_at, Stands, IsSearch, IsBegun, Finds}
use Rattle.command_line.specs.declared.request.Search.{Search}
use Rattle.requests.specs.Ends.{search_start, IsUnsearched}
use Rattle.requests.specs.Faults.{of_boot}
use Rattle.requests.specs.Sources.{IsProgramIn}
use Rattle.requests.specs.Unreadable.{IsUnreadable}
use Rattle.requests.specs.declared.fault.Fault.{Fault}

-- the fault of a boot, told to the user
pub boot-unsearched : (asked : Search) (file : List ℕ) (p : Program) (b : BootFault) → IsProgramIn asked.file.now file p
    → (b ≡ boot.NoMemory) ⊎ (boot_fault p.segments asked.harts asked.memory ≡ Some b) → IsUnsearched asked file (of_boot b)
boot-unsearched asked file p boot.BadSize holds h = elim h [ inl e ↦ absurd (cc) | inr e ↦ inr (inl (boot.BadSize, record { program = p; holds = holds; refused = e }, refl)) ]
boot-unsearched asked file p boot.BadHarts holds h = elim h [ inl e ↦ absurd (cc) | inr e ↦ inr (inl (boot.BadHarts, record { program = p; holds = holds; refused = e }, refl)) ]
boot-unsearched asked file p boot.DoesNotFit holds h = elim h [ inl e ↦ absurd (cc) | inr e ↦ inr (inl (boot.DoesNotFit, record { program = p; holds = holds; refused = e }, refl)) ]
boot-unsearched asked file p boot.NoMemory holds h = inr (inr (inr refl))

-- words that can't be shown, told to the user
pub unreadable-unsearched : (asked : Search) (file : List ℕ) (p : Program) (why : Fault) → IsProgramIn asked.file.now file p
    → boot_fault p.segments asked.harts asked.memory ≡ None → IsUnreadable (search_start asked p).setting asked.words.items why → IsUnsearched asked file why
unreadable-unsearched asked file p why holds boots h = elim h [
  | inl w ↦ inr (inr (inl (w.0, w.1, record { program = p; holds = holds; boots = boots; first = w.2 }, w.3)))
  | inr none ↦ inr (inr (inr none))
]

first_of : {A : Type 0} (xs : List A) → 0 < length xs → (x : A) × (slice_get xs 0 ≡ Some x)
first_of [] some = absurd (omega arith)
first_of (x ∷ xs) some = (x, refl)

-- a search has a first state
pub first_there : (o : Outcomes) → IsSearch o → (x : State) × Stands o 0 x
first_there o s = first_of o.states.keys s.some

-- its setting is that of the state that it begins with
pub begun-setting : (first : Place) (o : Outcomes) → IsBegun first o → setting_at o ≡ first.flat.setting
begun-setting first o b = ap (λ (p : Place). p.flat.setting) b.is

pub found-setting : (first : Place) (limit : ℕ) (o : Outcomes) → Finds first limit o → setting_at o ≡ first.flat.setting
found-setting first limit o f =
    let x = first_there o f.search in
    ap (λ (p : Place). p.flat.setting) (f.start x.0 x.1)

-- a search that could not be begun wanted memory, or had this fault
pub begin-fault : (o : Option BootFault) (r : Result Outcomes BootFault) (b : BootFault) → r ≡ Err b → ((e : BootFault) → o ≡ Some e → r ≡ Err e)
    → (o ≡ None → IfErr r (λ e. e ≡ boot.NoMemory)) → (b ≡ boot.NoMemory) ⊎ (o ≡ Some b)
begin-fault None r b err refused memory = inl (subst (λ r. IfErr r (λ e. e ≡ boot.NoMemory)) err (memory refl))
begin-fault (Some e) r b err refused memory = let same = refused e refl in inr (cc)
