use Rattle.std.proofs.Common.{◌≡◌, ◌+◌, sym, ap, ◌∙◌, arith}
use Rattle.std.specs.Prelude.{count_by}
use Rattle.watch.specs.Traffic.{capped, sum_at, was_sent}
use Rattle.watch.proofs.Capping.{capped_low}
use Rattle.watch.proofs.Sending.{none_sent}
use Rattle.watch.proofs.traffic.Traffic.add_sent.Goals as goal

-- nothing was sent
pub returns-then-next-sent-clause-added : goal.returns-then-next-sent-clause-added
returns-then-next-sent-clause-added g c s low =
    let flights = c.args.machine.now.flights in
    let none : count_by (was_sent c.args.sent s) flights ≡ 0 = none_sent c.args.sent s flights (λ number f at. let below = c.are_in_order.ensures.numbered number f at in omega (arith, below, c.if-next-lt18446744073709551615.true, c.if-next-sent.true, c.sent-next.ensures)) in
    let same : sum_at c.args.self.now s ≡ sum_at c.args.self.now s + count_by (was_sent c.args.sent s) flights = omega (arith, none) in
    sym (capped_low (sum_at c.args.self.now s) low) ∙ ap capped same
