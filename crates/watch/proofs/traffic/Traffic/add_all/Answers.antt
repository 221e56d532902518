use Rattle.std.proofs.Common.{◌≡◌, ◌+◌, ◌*◌, arith, refl, sym, subst}
use Rattle.std.specs.Prelude.{count_by}
use Rattle.network.proofs.Walks.{goes_on}
use Rattle.protocol.specs.Messages.{shown as shown_message}
use Rattle.schedule.proofs.Walking.{over}
use Rattle.watch.specs.Kinds.{one_if}
use Rattle.watch.specs.Traffic.{capped, is_same, sum_at, sum_of_message, was_sent}
use Rattle.watch.proofs.Sending.{counted_on, counted_out, next_counted, no_next, rest_of}
use Rattle.watch.proofs.traffic.Traffic.add_all.Goals as goal

pub loop-flight-init : goal.loop-flight-init
loop-flight-init g c = record { counted = λ s. refl; rest = refl }

pub overflow_add-number : goal.overflow_add-number
overflow_add-number g c =
    let on = goes_on c.loop-flight.number c.args.machine.now.sent c.args.machine.now.flights c.in-Some.flight.now c.are_in_order.ensures.numbered (sym c.in-Some.ensures) in
    omega (arith, on.1, c.sent-next.ensures)

pub loop-flight-smaller : goal.loop-flight-smaller
loop-flight-smaller g c =
    let on = goes_on c.loop-flight.number c.args.machine.now.sent c.args.machine.now.flights c.in-Some.flight.now c.are_in_order.ensures.numbered (sym c.in-Some.ensures) in
    omega (arith, on.0, on.1)

-- one more is counted
pub loop-flight-preserved : goal.loop-flight-preserved
loop-flight-preserved g c = record {
  counted = λ s.
      let flights = c.args.machine.now.flights in
      let flight = c.in-Some.flight.now in
      let added = subst (λ x. sum_at c.add.new.self s ≡ capped (sum_at c.loop-flight.self s + 1 * one_if (is_same s x))) c.of_message.ensures (c.add.ensures.added s) in
      counted_on (sum_at c.loop-flight.self s) (sum_at c.add.new.self s) (one_if (is_same s (sum_of_message (shown_message flight.message)))) (count_by (was_sent c.loop-flight.number s) flights)
      (count_by (was_sent (flight.number + 1) s) flights) (sum_at c.args.self.now s) (count_by (was_sent c.args.sent s) flights) (c.loop-flight.invariant.counted s)
      (next_counted c.loop-flight.number s flights flight c.are_in_order.ensures.order (sym c.in-Some.ensures)) added;
  rest = rest_of c.args.self.now c.loop-flight.self c.add.new.self c.loop-flight.invariant.rest c.add.ensures.rest;
}

-- none is left
pub returns-clause-added : goal.returns-clause-added
returns-clause-added g c s low =
    let flights = c.args.machine.now.flights in
    counted_out c.loop-flight.self s (count_by (was_sent c.loop-flight.number s) flights) (sum_at c.args.self.now s) (count_by (was_sent c.args.sent s) flights) (c.loop-flight.invariant.counted s)
    (no_next c.loop-flight.number s flights (over c.loop-flight.number flights c.next_from.result c.next_from.ensures c.in_default.not-Some))
