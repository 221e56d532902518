use Rattle.std.proofs.Common.{◌≤◌, ◌+◌, ◌∙◌, arith, ap, sym}
use Rattle.network.specs.Flights.{Flights, first_from}
use Rattle.network.proofs.Under.{held_at, not_there}
use Rattle.network.proofs.Known.{first_met, none_met}
use Rattle.network.proofs.net.Net.next_from.Goals as goal

pub returns-in-Some : goal.returns-in-Some
returns-in-Some c =
    let net = c.self.inside in
    let slots = net.flights.slots in
    let one = held_at slots c.loop-other.other c.in-Some.key c.in-Some.ensures.some in
    c.get.ensures
    ∙ one.1
    ∙ sym (first_met slots net.next net.keys c.self.invariant.1 c.args.number c.loop-other.other c.loop-other.invariant.from c.loop-other.invariant.none c.in-Some.key one.0 one.1 one.2)
    ∙ ap (λ (v : Flights). first_from c.args.number v.flights) c.self.view_is

pub loop-other-preserved : goal.loop-other-preserved
loop-other-preserved c =
    let net = c.self.inside in
    let is = c.is_known.ensures.0 c.if-not-is_known.false in
    let near : net.next ≤ c.loop-other.other + 64 = omega (arith, is.1, c.max-other.ensures, c.loop-other.auto.other) in
    let gone = not_there net.flights.slots net.next net.keys c.loop-other.other c.self.invariant.1 is.0 near c.in_default.ensures.none in
    record {
      from = omega (arith, c.loop-other.invariant.from);
      none = λ key f at above. let ne = gone key f at in omega (arith, ne, c.loop-other.invariant.none key f at above);
    }

pub returns : goal.returns
returns c =
    let net = c.self.inside in
    sym (none_met net.flights.slots net.next net.keys c.self.invariant.1 c.args.number c.loop-other.other c.loop-other.invariant.from c.loop-other.invariant.none (omega (arith, c.loop-other-test.false)))
    ∙ ap (λ (v : Flights). first_from c.args.number v.flights) c.self.view_is
