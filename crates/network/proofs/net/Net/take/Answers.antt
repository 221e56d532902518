use Rattle.std.proofs.Common.{◌≡◌, ◌∙◌, Option, None, arith, sym, ap, subst}
use Rattle.std.specs.Option.{option_map}
use Rattle.network.specs.declared.net.Flight.{Flight}
use Rattle.network.specs.Flights.{Flights, flight_at, message_at}
use Rattle.network.specs.Sorted.{in_order}
use Rattle.network.proofs.Sorted.{none_from}
use Rattle.network.proofs.Under.{number_at, at_key}
use Rattle.network.proofs.Kept.{takes_out, takes_first, takes_number, takes_others}
use Rattle.network.proofs.net.Net.take.Goals as goal

pub invariant_of-self : goal.invariant_of-self
invariant_of-self c =
    let net = c.self.inside in
    let taken = c.remove-flight.ensures in
    let news = c.remove-flight.new.self.slots in
    let kept = takes_out net.flights.slots news c.in-Some.key taken.updates.others net.next net.first net.keys taken.updates.changed c.self.invariant.1 in
    let first = takes_first net.flights.slots news c.in-Some.key taken.updates.others net.next net.first net.keys taken.updates.changed c.self.invariant.2 in
    (omega (arith, taken.len, taken.capacity, c.self.invariant.0), kept, c.lower_bound-self-inside.ensures kept first)

pub returns-in-Some-clause-value : goal.returns-in-Some-clause-value
returns-in-Some-clause-value c =
    let slots = c.self.inside.flights.slots in
    let at = sym c.remove-flight.ensures.value ∙ at_key slots c.self.invariant.1.apart c.args.number c.in-Some.key c.in-Some.ensures.some in
    ap (λ (o : Option Flight). option_map (λ f. f.message) o) at ∙ ap (λ (v : Flights). message_at v.flights c.args.number) c.self.view_is

pub returns-in-Some-clause-taken : goal.returns-in-Some-clause-taken
returns-in-Some-clause-taken c =
    let net = c.self.inside in
    let taken = c.remove-flight.ensures in
    let news = c.remove-flight.new.self.slots in
    let number = number_at net.flights.slots c.args.number c.in-Some.key c.remove-flight.result c.in-Some.ensures.some taken.value in
    subst (λ n. flight_at (in_order news) n ≡ None) number
    (takes_number net.flights.slots news c.in-Some.key taken.updates.others net.next net.first net.keys taken.updates.changed c.remove-flight.result taken.value c.self.invariant.1)

pub returns-in-Some-clause-others : goal.returns-in-Some-clause-others
returns-in-Some-clause-others c = λ other ne.
    let net = c.self.inside in
    let taken = c.remove-flight.ensures in
    let news = c.remove-flight.new.self.slots in
    let number = number_at net.flights.slots c.args.number c.in-Some.key c.remove-flight.result c.in-Some.ensures.some taken.value in
    takes_others net.flights.slots news c.in-Some.key taken.updates.others net.next net.first net.keys taken.updates.changed c.remove-flight.result taken.value c.self.invariant.1 other
    (λ same. ne (same ∙ number))
    ∙ ap (λ (v : Flights). flight_at v.flights other) c.self.view_is

pub returns-in-None-clause-taken : goal.returns-in-None-clause-taken
returns-in-None-clause-taken c = ap (λ (v : Flights). flight_at v.flights c.args.number) (sym c.self.view_is) ∙ none_from c.self.inside.flights.slots c.args.number c.in-None.ensures.none

pub returns-in-None-clause-value : goal.returns-in-None-clause-value
returns-in-None-clause-value c = sym (ap (λ (o : Option Flight). option_map (λ f. f.message) o) (returns-in-None-clause-taken c))
