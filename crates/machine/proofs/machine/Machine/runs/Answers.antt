use Rattle.std.proofs.Common.{sym, subst, ◌∙◌}
use Rattle.machine.specs.States.{State}
use Rattle.machine.specs.Watch.{IsOver}
use Rattle.machine.proofs.Ending.{runs_some, runs_none}
use Rattle.machine.proofs.machine.Machine.runs.Goals as goal

pub returns-in-Some : goal.returns-in-Some
returns-in-Some g c = λ over.
    let here : State = record { program = c.self.inside.program; seats = c.self.inside.seats.items; directory = c.self.inside.directory; flights = c.self.inside.net.flights; sent = c.self.inside.net.next; stamps = c.self.inside.stamps } in
    runs_some g.row.SETS here c.deref.result.now c.harts.result _ c.deref.ensures.value (c.harts.ensures.value ∙ sym c.self.invariant.count) c.in-Some.ensures.some
    (subst (λ m. IsOver g.row.SETS m) (sym c.self.view_is) over)

pub returns-in-None : goal.returns-in-None
returns-in-None g c =
    let here : State = record { program = c.self.inside.program; seats = c.self.inside.seats.items; directory = c.self.inside.directory; flights = c.self.inside.net.flights; sent = c.self.inside.net.next; stamps = c.self.inside.stamps } in
    subst (λ m. IsOver g.row.SETS m) c.self.view_is
    (runs_none g.row.SETS here c.deref.result.now c.harts.result c.deref.ensures.value (c.harts.ensures.value ∙ sym c.self.invariant.count) c.in-None.ensures.none)
