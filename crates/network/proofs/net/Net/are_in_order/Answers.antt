use Rattle.std.proofs.Common.{subst}
use Rattle.network.specs.Flights.{Flights, AreInOrder, AreNumbered}
use Rattle.network.proofs.Sorted.{ordered, numbered}
use Rattle.network.proofs.net.Net.are_in_order.Goals as goal

pub returns-clause-order : goal.returns-clause-order
returns-clause-order c = subst (λ (v : Flights). AreInOrder v.flights) c.self.view_is (ordered c.self.inside.flights.slots c.self.invariant.1.apart)

pub returns-clause-numbered : goal.returns-clause-numbered
returns-clause-numbered c = subst (λ (v : Flights). AreNumbered v.flights v.next) c.self.view_is (numbered c.self.inside.flights.slots c.self.inside.next c.self.invariant.1.below)
