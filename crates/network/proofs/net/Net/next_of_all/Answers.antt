use Rattle.std.proofs.Common.{◌≤◌, ◌∙◌, Some, None, length, arith, ap, sym}
use Rattle.network.specs.Flights.{Flights, flight_at, first_from}
use Rattle.network.proofs.Best.{IsBest, IsFrom, IsBelow, first_best, first_no_best}
use Rattle.network.proofs.net.Net.next_of_all.Goals as goal

pub returns-in-Some-best : goal.returns-in-Some-best
returns-in-Some-best c =
    let slots = c.self.inside.flights.slots in
    let all : length slots ≤ c.loop-key.key = omega (arith, c.capacity-key-end.ensures.slots, c.loop-key-test.false) in
    let best : IsBest (IsFrom c.args.number) (IsBelow c.args.number) slots c.loop-key.key (Some c.in-Some-best.lowest) = rw c.in-Some-best.is at c.loop-key.invariant in
    c.peek_flight.ensures
    ∙ ap (λ (v : Flights). flight_at v.flights c.in-Some-best.lowest) (sym c.self.view_is)
    ∙ first_best slots c.loop-key.key all c.args.number c.self.invariant.1.apart c.in-Some-best.lowest best
    ∙ ap (λ (v : Flights). first_from c.args.number v.flights) c.self.view_is

pub returns-in-None : goal.returns-in-None
returns-in-None c =
    let slots = c.self.inside.flights.slots in
    let all : length slots ≤ c.loop-key.key = omega (arith, c.capacity-key-end.ensures.slots, c.loop-key-test.false) in
    let best : IsBest (IsFrom c.args.number) (IsBelow c.args.number) slots c.loop-key.key None = rw c.in-None.is at c.loop-key.invariant in
    first_no_best slots c.loop-key.key all c.args.number c.self.invariant.1.apart best ∙ ap (λ (v : Flights). first_from c.args.number v.flights) c.self.view_is
