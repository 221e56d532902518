use Rattle.std.proofs.Common.{◌≡◌, Some, None, get_or, arith, sym, subst}
use Rattle.std.specs.Fn.{FnReturnsAt}
use Rattle.network.specs.Flights.{Flights, IsOldest, NonePasses}
use Rattle.network.proofs.Best.{told}
use Rattle.network.proofs.Under.{number_at}
use Rattle.network.proofs.Known.{first_passes, none_passes}
use Rattle.network.proofs.net.Net.oldest.Goals as goal

-- the first that passes is the oldest
pub returns-then-passes-clause-some : goal.returns-then-passes-clause-some
returns-then-passes-clause-some g c =
    let answers = FnReturnsAt g.F.Fn c.args.passes in
    let net = c.self.inside in
    let slots = net.flights.slots in
    let here : get_or slots c.in-Some.key None ≡ Some c.in-Some-get.flight.now = sym c.in-Some-get.ensures in
    let is = number_at slots c.loop-number.number c.in-Some.key c.in-Some-get.flight.now c.in-Some.ensures.some here in
    subst (λ (v : Flights). IsOldest answers v.flights c.loop-number.number) c.self.view_is
    (first_passes answers slots net.next net.keys c.self.invariant.1 c.loop-number.number c.loop-number.invariant c.in-Some.key c.in-Some-get.flight.now here is
    (told _ _ _ _ _ c.passes.ensures c.if-passes.true))

pub returns-clause-none : goal.returns-clause-none
returns-clause-none g c =
    let answers = FnReturnsAt g.F.Fn c.args.passes in
    let net = c.self.inside in
    subst (λ (v : Flights). NonePasses answers v.flights) c.self.view_is
    (none_passes answers net.flights.slots net.next net.keys c.self.invariant.1 c.loop-number.number c.loop-number.invariant (omega (arith, c.loop-number-test.false)))
