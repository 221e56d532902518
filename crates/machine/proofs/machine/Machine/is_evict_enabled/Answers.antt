use Rattle.std.proofs.Common.{◌≡◌, Some, false, subst}
use Rattle.std.specs.Prelude.{slice_get}
use Rattle.words.specs.declared.entry.Step.TheVariants.{Evict}
use Rattle.machine.specs.States.{Seat, State, geometry}
use Rattle.machine.specs.Watch.{IsEnabledByRule}
use Rattle.machine.proofs.Enabled.{seat_here, none_here, evict_enabled, no_evict}
use Rattle.machine.proofs.machine.Machine.is_evict_enabled.Goals as goal

pub returns-in-Some : goal.returns-in-Some
returns-in-Some g c =
    let here : State = record { program = c.self.inside.program; seats = c.self.inside.seats.items; directory = c.self.inside.directory; flights = c.self.inside.net.flights; sent = c.self.inside.net.next; stamps = c.self.inside.stamps } in
    let s : Seat = c.in-Some.seat.now in
    let at : slice_get here.seats c.args.id ≡ Some s = seat_here here c.deref.result.now c.index.result c.args.id s c.deref.ensures.value c.index.ensures.value c.in-Some.ensures.lookup.3.0 c.in-Some.ensures.lookup.1 in
    subst (λ (m : State). IsEnabledByRule (geometry g.row.SETS g.row.WAYS) m (Evict c.args.id c.args.block) c.can_evict.result) c.self.view_is
    (evict_enabled g.row.SETS g.row.WAYS c.args.id here s c.self.invariant at c.args.block c.can_evict.result c.can_evict.ensures)

pub returns-in-None : goal.returns-in-None
returns-in-None g c =
    let here : State = record { program = c.self.inside.program; seats = c.self.inside.seats.items; directory = c.self.inside.directory; flights = c.self.inside.net.flights; sent = c.self.inside.net.next; stamps = c.self.inside.stamps } in
    subst (λ (m : State). IsEnabledByRule (geometry g.row.SETS g.row.WAYS) m (Evict c.args.id c.args.block) false) c.self.view_is
    (no_evict g.row.SETS g.row.WAYS c.args.id c.args.block here (none_here here c.deref.result.now c.index.result c.args.id c.deref.ensures.value c.index.ensures.value c.in-None.ensures.lookup.3))
