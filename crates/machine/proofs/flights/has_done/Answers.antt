use Rattle.std.proofs.Common.{ℕ, Option, Some, None, cond, arith, sym, ap, ◌∙◌}
use Rattle.std.specs.Prelude.{is_some}
use Rattle.protocol.specs.Messages.{Message, shown}
use Rattle.protocol.specs.Values.{is_done_by}
use Rattle.machine.proofs.Scans.{found_from, next_below, none_left, none_on}
use Rattle.machine.proofs.flights.has_done.Goals as goal

-- the message, if it is such a Done
abbrev done_by : ℕ → ℕ → Message → Option Message
done_by r b m = cond (is_done_by r b m) (Some m) None

pub returns-then-is_done_by : goal.returns-then-is_done_by
returns-then-is_done_by c = λ keys below. ap is_some
    (found_from c.args.net.now.flights (done_by c.args.requester c.args.block) c.loop-flight.number c.loop-flight.invariant c.in-Some.flight.now c.are_in_order.ensures.order (sym c.in-Some.ensures)
    (shown c.in-Some.flight.now.message) (ap (λ t. cond t (Some (shown c.in-Some.flight.now.message)) None) (sym c.is_done_by.ensures ∙ c.if-is_done_by.true))
    keys below)

pub returns : goal.returns
returns c = λ keys below. ap is_some (none_left c.args.net.now.flights (done_by c.args.requester c.args.block) c.loop-flight.number c.loop-flight.invariant (sym c.in_default.ensures) keys below)

-- the number that comes next
pub overflow_add-number : goal.overflow_add-number
overflow_add-number c =
    let next = next_below c.args.net.now.flights c.loop-flight.number c.args.net.now.next c.in-Some.flight.now c.are_in_order.ensures.numbered (sym c.in-Some.ensures) in
    omega (arith, next.1, c.are_in_order.ensures.range)

pub loop-flight-smaller : goal.loop-flight-smaller
loop-flight-smaller c =
    let next = next_below c.args.net.now.flights c.loop-flight.number c.args.net.now.next c.in-Some.flight.now c.are_in_order.ensures.numbered (sym c.in-Some.ensures) in
    omega (arith, next.0, next.1)

pub loop-flight-preserved : goal.loop-flight-preserved
loop-flight-preserved c =
    none_on c.args.net.now.flights (done_by c.args.requester c.args.block) c.loop-flight.number c.loop-flight.invariant c.in-Some.flight.now c.are_in_order.ensures.order (sym c.in-Some.ensures)
    (ap (λ t. cond t (Some (shown c.in-Some.flight.now.message)) None) (sym c.is_done_by.ensures ∙ c.if-is_done_by.false))
