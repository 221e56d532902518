-- A flat state that belongs to a machine, and what is read of the machine.
use Rattle.std.proofs.Common.{◌≡◌, ◌<◌, ◌≤◌, ◌⊎◌, inl, inr, ℕ, true, false, List, Option, Some, None, length, get_or, arith, refl, sym, ap, ◌∙◌}
use Rattle.std.specs.Prelude.{cond, nat_lt, slice_get}
use Rattle.std.specs.Option.{option_map, option_map_or}
use Rattle.std.proofs.lemmas.Bool.{cases_lt}
use Rattle.std.proofs.lemmas.Bool.Decides.{nat_tests}
use Rattle.std.proofs.lemmas.Option.{slice_get_past, slice_get_read}
use Rattle.words.specs.declared.cause.Status.{Status}
use Rattle.flat.specs.State.{Flat, idle}
use Rattle.flat.specs.Reads.{shown_if}
use Rattle.protocol.specs.Caches.{Geometry}
use Rattle.protocol.specs.Start.{first_hart}
use Rattle.protocol.specs.Machine.{Machine}
use Rattle.hart.specs.Shown.{shown_hart}
use Rattle.isolation.specs.Belongs.{Belongs, LooksAs}
use Rattle.isolation.proofs.Belongs.Belonging.{inv_of}
use Rattle.machine.specs.Reads.{regs_if}
use Rattle.machine.specs.States.{Seat, State, shown, hart_at}
use Rattle.machine.proofs.Places.{none_past}

-- it has the machine's setting
pub same_setting : (g : Geometry) (f : Flat) (w : Machine) → Belongs g f w → w.setting ≡ f.setting
same_setting g f w b = sym (inv_of g f w b).1.same

-- and each hart looks as its flat one
pub looks_same : (g : Geometry) (f : Flat) (w : Machine) (i : ℕ) → Belongs g f w → LooksAs (w.harts i) (f.hart i)
looks_same g f w i b = let h = (inv_of g f w b).1.harts i in record { regs = sym h.regs; pc = sym h.pc; status = sym h.status; output = sym h.output }

-- its registers, pc and status too
pub same_regs : (g : Geometry) (f : Flat) (w : Machine) (i : ℕ) → Belongs g f w → regs_if w i ≡ shown_if f i
same_regs g f w i b =
    let l = looks_same g f w i b in
    λ k. cond (nat_lt i (same_setting g f w b k).count) (Some (l.regs k, l.pc k, l.status k)) None

-- those of the seats

abbrev pub regs_of : Seat → List ℕ × ℕ × Status
regs_of s = (s.hart.regs, s.hart.pc, s.hart.status)

pub within_count : {A : Type 0} (xs : List A) (i : ℕ) (x : A) → slice_get xs i ≡ Some x → i < length xs
within_count xs i x is = within (cases_lt i (length xs))
  where
    no : {A : Type 0} (x : A) → None ≡ Some x → ⊥
    no x e = cc

    within : (i < length xs) ⊎ (length xs ≤ i) → i < length xs
    within (inl lt) = lt
    within (inr le) = absurd (no x (sym (slice_get_past xs i le) ∙ is))

regs_listed : (sets : ℕ) (m : State) (i : ℕ) (o : Option Seat) → slice_get m.seats i ≡ o → regs_if (shown sets m) i ≡ option_map regs_of o
regs_listed sets m i (Some s) is =
    let lt : i < length m.seats = within_count m.seats i s is in
    let known : nat_lt i (length m.seats) ≡ true = grind (arith, nat_tests) in
    let hart : (shown sets m).harts i ≡ shown_hart sets s.output s.hart = ap (λ o. option_map_or (λ s. shown_hart sets s.output s.hart) o (first_hart idle)) is in
    λ k. cond (known k) (Some ((hart k).regs, (hart k).pc, (hart k).status)) None
regs_listed sets m i None is =
    let le : length m.seats ≤ i = none_past m.seats i is in
    let unknown : nat_lt i (length m.seats) ≡ false = grind (arith, nat_tests) in
    λ k. cond (unknown k) (Some (((shown sets m).harts i).regs, ((shown sets m).harts i).pc, ((shown sets m).harts i).status)) None

pub regs_seated : (sets : ℕ) (m : State) (i : ℕ) → option_map regs_of (slice_get m.seats i) ≡ regs_if (shown sets m) i
regs_seated sets m i = sym (regs_listed sets m i (slice_get m.seats i) refl)

-- the seat at a place is what the machine has there
pub seat_at : (sets : ℕ) (seats : List Seat) (i : ℕ) (s : Seat) → i < length seats → s ≡ get_or seats i s → shown_hart sets s.output s.hart ≡ hart_at sets seats i
seat_at sets seats i s lt is = ap (λ o. option_map_or (λ s. shown_hart sets s.output s.hart) o (first_hart idle)) (sym (slice_get_read seats (length seats) i s refl lt is))
