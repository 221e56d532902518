-- One hart of the machine does something: what becomes of its seat, and what stays.
use Rattle.std.proofs.Common.{◌≡◌, ◌<◌, ◌*◌, ℕ, Some, length, get_or, refl, ap, ◌∙◌}
use Rattle.std.specs.Prelude.{slice_get, slice_set}
use Rattle.std.specs.Option.{option_map_or}
use Rattle.std.proofs.lemmas.List.{length-set}
use Rattle.std.proofs.lemmas.Option.{slice_get_read}
use Rattle.words.specs.Limits.{block_bytes}
use Rattle.flat.specs.Bytes.{put_at}
use Rattle.flat.specs.State.{idle}
use Rattle.hart.specs.Staying.{StaysPut}
use Rattle.hart.specs.Shown.{shown_hart}
use Rattle.protocol.specs.Start.{first_hart}
use Rattle.machine.specs.States.{Seat, State, hart_at, setting_of}
use Rattle.machine.proofs.Places.{got_there, got_elsewhere, set_again}
use Rattle.machine.proofs.Changed.{changed_at}

-- hart i had the one seat and has the other, at its place; program and directory stay
pub record Acts (i : ℕ) (v w : State) (old new : Seat) : Type 0 where
  pub number : i < length v.seats
  pub before : old ≡ get_or v.seats i old
  pub after : w.seats ≡ slice_set v.seats i new
  pub program : w.program ≡ v.program
  pub directory : w.directory ≡ v.directory
  pub stays : StaysPut old.hart new.hart

-- the seat that it had
pub seat_before : (i : ℕ) (v w : State) (old new : Seat) → Acts i v w old new → slice_get v.seats i ≡ Some old
seat_before i v w old new a = slice_get_read v.seats (length v.seats) i old refl a.number a.before

pub hart_before : (sets i : ℕ) (v w : State) (old new : Seat) → Acts i v w old new → hart_at sets v.seats i ≡ shown_hart sets old.output old.hart
hart_before sets i v w old new a = ap (λ o. option_map_or (λ s. shown_hart sets s.output s.hart) o (first_hart idle)) (seat_before i v w old new a)

-- no other hart changes
pub harts_after : (sets i : ℕ) (v w : State) (old new : Seat) → Acts i v w old new → hart_at sets w.seats ≡ put_at i (shown_hart sets new.output new.hart) (hart_at sets v.seats)
harts_after sets i v w old new a = ap (hart_at sets) a.after ∙ changed_at i (shown_hart sets new.output new.hart) (hart_at sets v.seats) (hart_at sets (slice_set v.seats i new))
    (ap (λ o. option_map_or (λ s. shown_hart sets s.output s.hart) o (first_hart idle)) (got_there v.seats i new a.number))
    (λ j ne. ap (λ o. option_map_or (λ s. shown_hart sets s.output s.hart) o (first_hart idle)) (got_elsewhere v.seats i j new ne))

-- nor the number of harts
pub count_after : (i : ℕ) (v w : State) (old new : Seat) → Acts i v w old new → length w.seats ≡ length v.seats
count_after i v w old new a = ap length a.after ∙ length-set v.seats i new

-- nor the setting
pub setting_after : (i : ℕ) (v w : State) (old new : Seat) → Acts i v w old new → setting_of w ≡ setting_of v
setting_after i v w old new a = λ k. record { segments = (a.program k).segments; size = block_bytes * length (a.directory k).memory; count = count_after i v w old new a k }

-- if the hart is what it was, and nothing else changes, then the machine is what it was
pub rests_still : (i : ℕ) (v w : State) (old new : Seat) → Acts i v w old new → new ≡ old → w.flights ≡ v.flights → w.sent ≡ v.sent → w.stamps ≡ v.stamps → w ≡ v
rests_still i v w old new a same flights sent stamps = λ k. record {
  program = a.program k;
  seats = (a.after ∙ ap (slice_set v.seats i) same ∙ set_again v.seats i old (seat_before i v w old new a)) k;
  directory = a.directory k;
  flights = flights k;
  sent = sent k;
  stamps = stamps k;
}
