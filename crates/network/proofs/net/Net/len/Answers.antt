use Rattle.std.proofs.Common.{◌∙◌, sym, ap, length}
use Rattle.network.specs.Flights.{Flights}
use Rattle.network.proofs.Sorted.{length-in_order}
use Rattle.network.proofs.net.Net.len.Goals as goal

pub returns : goal.returns
returns c = c.len.ensures ∙ sym (length-in_order c.self.inside.flights.slots) ∙ ap (λ (v : Flights). length v.flights) c.self.view_is
