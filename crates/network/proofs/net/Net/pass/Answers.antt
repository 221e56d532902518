use Rattle.std.proofs.Common.{◌≤◌, ◌∙◌, arith, ap}
use Rattle.network.specs.Flights.{Flights}
use Rattle.network.proofs.Kept.{over}
use Rattle.network.proofs.First.{none_beside}
use Rattle.network.proofs.net.Net.pass.Goals as goal

pub returns-clause-empty : goal.returns-clause-empty
returns-clause-empty c =
    ap (λ (v : Flights). v.flights) c.self.view_is
    ∙ none_beside c.args.self.now.flights c.take-passed.new.self.flights c.args.number c.requires c.take-passed.ensures.taken c.take-passed.ensures.others

-- nothing is in flight
pub invariant_of-self : goal.invariant_of-self
invariant_of-self c =
    let range : c.saturating_add-next.result ≤ 18446744073709551615 = omega (arith, c.saturating_add-next.ensures) in
    let kept = over c.self.inside.flights.slots c.saturating_add-next.result c.self.inside.keys range (returns-clause-empty c) in
    (c.self.invariant.0, kept.0, kept.1)
