use Rattle.std.proofs.Common.{◌∙◌, sym, ap}
use Rattle.network.specs.Flights.{Flights, flight_at}
use Rattle.network.proofs.Sorted.{none_from}
use Rattle.network.proofs.Under.{at_key}
use Rattle.network.proofs.net.Net.peek_flight.Goals as goal

pub returns-in-Some : goal.returns-in-Some
returns-in-Some c =
    c.get.ensures
    ∙ at_key c.self.inside.flights.slots c.self.invariant.1.apart c.args.number c.in-Some.key c.in-Some.ensures.some
    ∙ ap (λ (v : Flights). flight_at v.flights c.args.number) c.self.view_is

pub returns-in-None : goal.returns-in-None
returns-in-None c = sym (ap (λ (v : Flights). flight_at v.flights c.args.number) (sym c.self.view_is) ∙ none_from c.self.inside.flights.slots c.args.number c.in-None.ensures.none)
