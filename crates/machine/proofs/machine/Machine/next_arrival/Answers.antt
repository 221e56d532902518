use Rattle.std.proofs.Common.{IfSome, IfNone, subst}
use Rattle.machine.specs.States.{State, shown}
use Rattle.machine.specs.Turns.{AllHeld, IsOldestFree}
use Rattle.machine.proofs.Turning.{free_in, held_in}
use Rattle.machine.proofs.machine.Machine.next_arrival.Goals as goal

pub returns-clause-some : goal.returns-clause-some
returns-clause-some g c =
    let here : State = record { program = c.self.inside.program; seats = c.self.inside.seats.items; directory = c.self.inside.directory; flights = c.self.inside.net.flights; sent = c.self.inside.net.next; stamps = c.self.inside.stamps } in
    subst (λ (m : State). IfSome c.oldest_free.result (IsOldestFree (shown g.row.SETS m) m.flights)) c.self.view_is (free_in (shown g.row.SETS here) here.flights c.oldest_free.result c.oldest_free.ensures.some)

pub returns-clause-none : goal.returns-clause-none
returns-clause-none g c =
    let here : State = record { program = c.self.inside.program; seats = c.self.inside.seats.items; directory = c.self.inside.directory; flights = c.self.inside.net.flights; sent = c.self.inside.net.next; stamps = c.self.inside.stamps } in
    subst (λ (m : State). IfNone c.oldest_free.result (AllHeld (shown g.row.SETS m) m.flights)) c.self.view_is (held_in (shown g.row.SETS here) here.flights c.oldest_free.result c.oldest_free.ensures.none)
