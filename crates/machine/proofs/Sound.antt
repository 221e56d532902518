-- What a machine keeps, it keeps over a step.
use Rattle.std.proofs.Common.{◌≡◌, ℕ, arith, true, false, Option, Some, refl, sym, ap, subst, ◌∙◌}
use Rattle.std.specs.Prelude.{◌==◌, slice_get}
use Rattle.words.specs.declared.entry.Entry.{Entry}
use Rattle.words.specs.declared.entry.Step.{Step}
use Rattle.flat.specs.State.{Setting}
use Rattle.flat.proofs.Maps.{one_number, two_numbers}
use Rattle.hart.specs.Parts.{Parts}
use Rattle.hart.specs.Staying.{StaysPut}
use Rattle.protocol.specs.Machine.{Steps}
use Rattle.network.specs.Flights.{AreInOrder}
use Rattle.directory.specs.Blocks.{KeepsUsed}
use Rattle.isolation.proofs.Belongs.Belonging.{belongs_next}
use Rattle.machine.specs.States.{Seat, State, shown, setting_of, geometry, IsSeated, IsSound}
use Rattle.machine.proofs.Places.{got_there, got_elsewhere}
use Rattle.machine.proofs.Acting.{Acts, seat_before, count_after, setting_after}

-- a hart at its place stays there
stays_seated : (s : Setting) (i : ℕ) (old new : Parts) → StaysPut old new → IsSeated s i old → IsSeated s i new
stays_seated s i old new p at = record { index = p.index ∙ at.index; harts = p.harts ∙ at.harts; size = p.size ∙ at.size; log = p.log.base ∙ at.log }

pub one_seat : (a b : Seat) → Some a ≡ Some b → a ≡ b
one_seat a b e = grind arith

-- and so do all
all_seated : (i : ℕ) (v w : State) (old new : Seat) → Acts i v w old new
    → ((j : ℕ) (s : Seat) → slice_get v.seats j ≡ Some s → IsSeated (setting_of v) j s.hart)
    → (j : ℕ) (s : Seat) → slice_get w.seats j ≡ Some s → IsSeated (setting_of w) j s.hart
all_seated i v w old new a all j s at = subst (λ set. IsSeated set j s.hart) (sym (setting_after i v w old new a)) (elim (j == i) as (λ b. (j == i) ≡ b → IsSeated (setting_of v) j s.hart) [
  | true ↦ λ e.
      let here : slice_get w.seats i ≡ Some new = ap (λ l. slice_get l i) a.after ∙ got_there v.seats i new a.number in
      let is : new ≡ s = one_seat new s (sym here ∙ ap (slice_get w.seats) (sym (one_number j i e)) ∙ at) in
      subst (λ z. IsSeated (setting_of v) j z.hart) is
      (subst (λ n. IsSeated (setting_of v) n new.hart) (sym (one_number j i e)) (stays_seated (setting_of v) i old.hart new.hart a.stays (all i old (seat_before i v w old new a))))
  | false ↦ λ e. all j s (sym (got_elsewhere v.seats i j new (two_numbers j i e)) ∙ sym (ap (λ l. slice_get l j) a.after) ∙ at)
] refl)

-- after a step of one hart a flat state belongs to the machine, as before
pub still_sound : (sets ways i : ℕ) (v w : State) (old new : Seat) (step : Step) (e : Option Entry) → IsSound sets ways v → Acts i v w old new
    → AreInOrder w.flights → Steps (geometry sets ways) (shown sets v) step e (shown sets w) → IsSound sets ways w
still_sound sets ways i v w old new step e sound a order steps =
    let next = belongs_next (geometry sets ways) sound.flat (shown sets v) (shown sets w) step e sound.belongs steps in
    record {
      some_way = sound.some_way;
      fits = sound.fits;
      count = count_after i v w old new a ∙ sound.count ∙ sym (ap (λ d. d.harts) a.directory);
      seats = all_seated i v w old new a sound.seats;
      kept = subst KeepsUsed (sym a.directory) sound.kept;
      order = order;
      flat = next.0;
      belongs = next.2;
    }
