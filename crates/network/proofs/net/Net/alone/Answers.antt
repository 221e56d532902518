use Rattle.std.proofs.Common.{◌∙◌, sym, subst}
use Rattle.network.specs.Flights.{Flights, IsAlone}
use Rattle.network.specs.Sorted.{in_order}
use Rattle.network.proofs.Sorted.{length-in_order}
use Rattle.network.proofs.Under.{held_at, at_key}
use Rattle.network.proofs.First.{alone_from}
use Rattle.network.proofs.net.Net.alone.Goals as goal

-- there is one message, and it has the first number
pub returns-in-Some : goal.returns-in-Some
returns-in-Some c =
    let slots = c.self.inside.flights.slots in
    let first = c.self.inside.first in
    let under = c.in-Some.ensures.some in
    let one = held_at slots first c.in-Some.field-0 under in
    subst (λ (v : Flights). IsAlone v.flights first) c.self.view_is
    (alone_from (in_order slots) first one.0 (length-in_order slots ∙ sym c.len-count.ensures ∙ c.if-count-ne1.false) (sym (at_key slots c.self.invariant.1.apart first c.in-Some.field-0 under) ∙ one.1))
