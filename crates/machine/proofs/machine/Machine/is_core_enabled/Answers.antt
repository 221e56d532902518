use Rattle.std.proofs.Common.{◌≡◌, Some, false, subst}
use Rattle.std.specs.Prelude.{List, is_some, slice_get}
use Rattle.words.specs.declared.entry.Step.TheVariants.{Core}
use Rattle.table.specs.Program.{Segment}
use Rattle.hart.specs.Rows.{setting_of as hart_setting, victim_of}
use Rattle.hart.specs.Shown.{shown_hart}
use Rattle.protocol.specs.Core.{core_row}
use Rattle.machine.specs.States.{Seat, State, geometry}
use Rattle.machine.specs.Watch.{IsEnabledByRule}
use Rattle.machine.proofs.Enabled.{seat_here, none_here, core_enabled, no_core}
use Rattle.machine.proofs.machine.Machine.is_core_enabled.Goals as goal

pub returns-in-Some-glance : goal.returns-in-Some-glance
returns-in-Some-glance g c =
    let here : State = record { program = c.self.inside.program; seats = c.self.inside.seats.items; directory = c.self.inside.directory; flights = c.self.inside.net.flights; sent = c.self.inside.net.next; stamps = c.self.inside.stamps } in
    let s : Seat = c.in-Some.seat.now in
    let at : slice_get here.seats c.args.id ≡ Some s = seat_here here c.deref.result.now c.index.result c.args.id s c.deref.ensures.value c.index.ensures.value c.in-Some.ensures.lookup.3.0 c.in-Some.ensures.lookup.1 in
    subst (λ (m : State). IsEnabledByRule (geometry g.row.SETS g.row.WAYS) m (Core c.args.id) c.in-Some-glance.known) c.self.view_is
    (core_enabled g.row.SETS g.row.WAYS c.args.id here s c.self.invariant at c.in-Some-glance.known c.glance.ensures.victim (c.in-Some-glance.ensures.row here.program.segments here.stamps))

pub returns-in-None-glance : goal.returns-in-None-glance
returns-in-None-glance g c =
    let here : State = record { program = c.self.inside.program; seats = c.self.inside.seats.items; directory = c.self.inside.directory; flights = c.self.inside.net.flights; sent = c.self.inside.net.next; stamps = c.self.inside.stamps } in
    let s : Seat = c.in-Some.seat.now in
    let at : slice_get here.seats c.args.id ≡ Some s = seat_here here c.deref.result.now c.index.result c.args.id s c.deref.ensures.value c.index.ensures.value c.in-Some.ensures.lookup.3.0 c.in-Some.ensures.lookup.1 in
    subst (λ (m : State). IsEnabledByRule (geometry g.row.SETS g.row.WAYS) m (Core c.args.id) c.has_step.result) c.self.view_is
    (core_enabled g.row.SETS g.row.WAYS c.args.id here s c.self.invariant at c.has_step.result c.has_step.ensures.victim
    (subst (λ (segments : List Segment). c.has_step.result ≡ is_some (core_row (hart_setting segments s.hart) s.hart.index here.stamps (victim_of g.row.SETS s.hart.cache) (shown_hart g.row.SETS s.output s.hart)))
    c.text.ensures (c.has_step.ensures.row here.stamps)))

pub returns-in-None : goal.returns-in-None
returns-in-None g c =
    let here : State = record { program = c.self.inside.program; seats = c.self.inside.seats.items; directory = c.self.inside.directory; flights = c.self.inside.net.flights; sent = c.self.inside.net.next; stamps = c.self.inside.stamps } in
    subst (λ (m : State). IsEnabledByRule (geometry g.row.SETS g.row.WAYS) m (Core c.args.id) false) c.self.view_is
    (no_core g.row.SETS g.row.WAYS c.args.id here c.self.invariant (none_here here c.deref.result.now c.index.result c.args.id c.deref.ensures.value c.index.ensures.value c.in-None.ensures.lookup.3))
