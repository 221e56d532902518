use Rattle.std.proofs.Common.{◌≡◌, ◌+◌, ◌∙◌, min, arith, ap}
use Rattle.network.specs.declared.net.Flight.{Flight}
use Rattle.network.specs.Flights.{Flights, flight_at}
use Rattle.network.proofs.Sorted.{absent_from}
use Rattle.network.proofs.Kept.{sends, sends_first, sends_number, sends_others}
use Rattle.network.proofs.net.Net.send.Goals as goal

pub invariant_of-self : goal.invariant_of-self
invariant_of-self c =
    let net = c.self.inside in
    let number = c.next_number-number.result in
    let sent = c.put-key.ensures in
    let flight : Flight = record { message = c.args.message; number = number } in
    let next : c.saturating_add-self-inside.result ≡ min (net.next + 1) 18446744073709551615 = c.saturating_add-self-inside.ensures in
    let free = absent_from net.flights.slots number c.next_number-number.ensures.number.free in
    let room = ap (λ (v : Flights). v.room) c.self.view_is in (
      omega (arith, sent.count, sent.capacity, room, c.requires),
      rw next (sends net.flights.slots c.put-key.new.slab.slots c.put-key.result sent.updates.others net.next net.first net.keys flight sent.vacant sent.updates.changed free c.self.invariant.1
          c.next_number-number.ensures.number.below c.next_number-number.ensures.next c.self.told),
      rw next (sends_first net.flights.slots c.put-key.new.slab.slots c.put-key.result sent.updates.others net.next net.first net.keys flight sent.vacant sent.updates.changed free c.self.invariant.1
          c.next_number-number.ensures.number.below c.next_number-number.ensures.next c.self.invariant.2),
    )

pub returns-clause-sent : goal.returns-clause-sent
returns-clause-sent c =
    let net = c.self.inside in
    let number = c.next_number-number.result in
    let sent = c.put-key.ensures in
    let flight : Flight = record { message = c.args.message; number = number } in
    sends_number net.flights.slots c.put-key.new.slab.slots c.put-key.result sent.updates.others net.next net.first net.keys flight sent.vacant sent.updates.changed
    (absent_from net.flights.slots number c.next_number-number.ensures.number.free) c.self.invariant.1

pub returns-clause-others : goal.returns-clause-others
returns-clause-others c = λ other ne.
    let net = c.self.inside in
    let number = c.next_number-number.result in
    let sent = c.put-key.ensures in
    let flight : Flight = record { message = c.args.message; number = number } in
    let stays = sends_others net.flights.slots c.put-key.new.slab.slots c.put-key.result sent.updates.others net.next net.first net.keys flight sent.vacant sent.updates.changed
    (absent_from net.flights.slots number c.next_number-number.ensures.number.free) c.self.invariant.1 other ne in
    stays ∙ ap (λ (v : Flights). flight_at v.flights other) c.self.view_is
