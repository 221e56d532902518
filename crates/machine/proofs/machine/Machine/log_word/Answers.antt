use Rattle.std.proofs.Common.{◌≡◌, ◌<◌, ◌≤◌, ◌-◌, ◌+◌, ◌/◌, length, get_or, Some, ap, sym, ◌∙◌, refl, subst}
use Rattle.std.specs.Prelude.{slice_get}
use Rattle.std.proofs.lemmas.Option.{slice_get_read}
use Rattle.words.specs.Limits.{log_bytes}
use Rattle.machine.specs.States.{Seat, State, IsSound, setting_of}
use Rattle.machine.proofs.Logs.{logged}
use Rattle.machine.proofs.machine.Machine.log_word.Goals as goal

pub returns : goal.returns
returns g c =
    let m : State = c.args.self.now in
    let s : Seat = record { hart = c.seat.inside.hart; output = c.seat.inside.output.items } in
    let sound : IsSound g.row.SETS g.row.WAYS m = subst (IsSound g.row.SETS g.row.WAYS) c.self.view_is c.self.invariant in
    let seats : c.deref.result.now ≡ m.seats = c.deref.ensures.value ∙ ap (λ (v : State). v.seats) c.self.view_is in
    let above : c.in_ok-above.above ≡ (setting_of m).size - (c.args.addr + 1) = c.in_ok-above.ensures.1 ∙ (λ k. c.size.ensures.value k - (c.index.ensures.value k + 1)) in
    let below : c.args.addr + 1 ≤ (setting_of m).size = rw (c.size.ensures.value, c.index.ensures.value) at c.in_ok-above.ensures.0 in
    let hart : c.in_ok-above.above / log_bytes < length m.seats = rw (← seats) c.in_ok-seat.ensures.lookup.3.0 in
    let read : c.in_ok-seat.seat.now ≡ get_or m.seats (c.in_ok-above.above / log_bytes) c.in_ok-seat.seat.now = rw (← seats) c.in_ok-seat.ensures.lookup.1 in
    let at : slice_get m.seats (c.in_ok-above.above / log_bytes) ≡ Some s =
    slice_get_read m.seats (length m.seats) (c.in_ok-above.above / log_bytes) c.in_ok-seat.seat.now refl hart read ∙ ap Some (sym c.seat.view_is) in
    logged g.row.SETS g.row.WAYS m sound c.args.addr c.in_ok-above.above s below above hart at c.log_word.result c.log_word.ensures.some c.log_word.ensures.value
