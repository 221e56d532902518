use Rattle.std.proofs.Common.{◌≡◌, ◌∙◌, sym, ap, length}
use Rattle.std.proofs.lemmas.Bool.{eqb-true, eq-eqb}
use Rattle.std.proofs.lemmas.List.{nil_from_length}
use Rattle.network.specs.Flights.{Flights}
use Rattle.network.specs.Sorted.{in_order}
use Rattle.network.proofs.Sorted.{length-in_order}
use Rattle.network.proofs.net.Net.is_empty.Goals as goal

pub returns : goal.returns
returns c =
    let slots = c.self.inside.flights.slots in
    let same : in_order slots ≡ c.args.self.now.flights = ap (λ (v : Flights). v.flights) c.self.view_is in
    let count = length-in_order slots in (
      λ empty. sym same ∙ nil_from_length (in_order slots) (count ∙ eqb-true _ 0 (sym c.is_empty.ensures ∙ empty)),
      λ none. c.is_empty.ensures ∙ eq-eqb _ 0 (sym count ∙ ap length (same ∙ none)),
    )
