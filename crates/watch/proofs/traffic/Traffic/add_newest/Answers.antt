use Rattle.std.proofs.Common.{◌≡◌, ◌+◌, ◌*◌, sym, ap, ◌∙◌, arith}
use Rattle.std.specs.Prelude.{count_by}
use Rattle.std.specs.Option.{option_map}
use Rattle.network.proofs.OneOrder.{number_is}
use Rattle.watch.specs.Kinds.{one_if}
use Rattle.watch.specs.Traffic.{capped, is_same, sum_at, was_sent}
use Rattle.watch.proofs.Capping.{capped_low}
use Rattle.watch.proofs.Sending.{newest_counted, none_sent}
use Rattle.watch.proofs.traffic.Traffic.add_newest.Goals as goal

-- the message that was sent is in flight
pub returns-in-Some-peek_flight-clause-added : goal.returns-in-Some-peek_flight-clause-added
returns-in-Some-peek_flight-clause-added g c s low =
    let flights = c.args.machine.now.flights in
    let at = sym c.peek_flight.ensures ∙ ap (option_map (λ f. f.now)) c.in-Some-peek_flight.is in
    let counted = newest_counted c.args.sent c.args.machine.now.sent s flights c.in-Some.number c.are_in_order.ensures.order c.requires.one (c.in-Some.ensures.some c.requires.range) c.in-Some-peek_flight.flight.now at in
    let sum = ap (λ x. one_if (is_same s x)) c.of_message.ensures in
    let all : sum_at c.args.self.now s + 1 * one_if (is_same s c.of_message.result) ≡ sum_at c.args.self.now s + count_by (was_sent c.args.sent s) flights = omega (arith, counted, sum) in
    c.add.ensures.added s ∙ ap capped all

-- or it has arrived
pub returns-in_default-clause-added : goal.returns-in_default-clause-added
returns-in_default-clause-added g c s low =
    let flights = c.args.machine.now.flights in
    let none : count_by (was_sent c.args.sent s) flights ≡ 0 = none_sent c.args.sent s flights (λ number f at. let below = c.in_default.ensures.none c.requires.range number f at in let has = number_is flights number f at in omega (arith, below, has, c.requires.one)) in
    let same : sum_at c.args.self.now s ≡ sum_at c.args.self.now s + count_by (was_sent c.args.sent s) flights = omega (arith, none) in
    sym (capped_low (sum_at c.args.self.now s) low) ∙ ap capped same
