use Rattle.std.proofs.Common.{◌<◌, ◌-◌, arith, subst}
use Rattle.network.specs.Flights.{Flights, IsNewest, HasNewestArrived}
use Rattle.network.proofs.Sorted.{numbered}
use Rattle.network.proofs.Newest.{newest_here, newest_arrived}
use Rattle.network.proofs.net.Net.newest.Goals as goal

-- nothing was sent
pub returns-then-self-eq0-clause-none : goal.returns-then-self-eq0-clause-none
returns-then-self-eq0-clause-none c range =
    let net = c.self.inside in
    subst (λ (v : Flights). HasNewestArrived v.flights v.next) c.self.view_is (λ number f at. absurd (omega (arith, numbered net.flights.slots net.next c.self.invariant.1.below number f at, c.if-self-eq0.true)))

pub returns-in-Some-clause-some : goal.returns-in-Some-clause-some
returns-in-Some-clause-some c range =
    let net = c.self.inside in
    subst (λ (v : Flights). IsNewest v.flights v.next (net.next - 1)) c.self.view_is
    (newest_here net.flights.slots net.next net.keys c.self.invariant.1 (net.next - 1) (omega (arith, c.if-self-eq0.false)) c.in-Some.field-0 c.in-Some.ensures.some)

pub returns-in-None-clause-none : goal.returns-in-None-clause-none
returns-in-None-clause-none c =
    let net = c.self.inside in
    subst (λ (v : Flights). v.next < 18446744073709551615 → HasNewestArrived v.flights v.next) c.self.view_is
    (λ range. newest_arrived net.flights.slots net.next net.keys c.self.invariant.1 (net.next - 1) (omega (arith, c.if-self-eq0.false)) range c.in-None.ensures.none)
