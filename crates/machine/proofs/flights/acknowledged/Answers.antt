use Rattle.std.proofs.Common.{arith, sym, ◌∙◌}
use Rattle.protocol.specs.Values.{ack_content}
use Rattle.machine.proofs.Scans.{found_from, next_below, none_left, none_on}
use Rattle.machine.proofs.flights.acknowledged.Goals as goal

pub returns-in-Some-ack_content : goal.returns-in-Some-ack_content
returns-in-Some-ack_content c =
    found_from c.args.net.now.flights (ack_content c.args.block) c.loop-flight.number c.loop-flight.invariant c.in-Some.flight.now c.are_in_order.ensures.order (sym c.in-Some.ensures)
    c.in-Some-ack_content.content (sym c.ack_content.ensures ∙ c.in-Some-ack_content.is)

pub returns : goal.returns
returns c = none_left c.args.net.now.flights (ack_content c.args.block) c.loop-flight.number c.loop-flight.invariant (sym c.in_default.ensures)

-- the number that comes next
pub overflow_add-number : goal.overflow_add-number
overflow_add-number c =
    let next = next_below c.args.net.now.flights c.loop-flight.number c.args.net.now.next c.in-Some.flight.now c.are_in_order.ensures.numbered (sym c.in-Some.ensures) in
    omega (arith, next.1, c.are_in_order.ensures.range)

pub loop-flight-smaller : goal.loop-flight-smaller
loop-flight-smaller c =
    let next = next_below c.args.net.now.flights c.loop-flight.number c.args.net.now.next c.in-Some.flight.now c.are_in_order.ensures.numbered (sym c.in-Some.ensures) in
    omega (arith, next.0, next.1)

pub loop-flight-preserved : goal.loop-flight-preserved
loop-flight-preserved c =
    none_on c.args.net.now.flights (ack_content c.args.block) c.loop-flight.number c.loop-flight.invariant c.in-Some.flight.now c.are_in_order.ensures.order (sym c.in-Some.ensures)
    (sym c.ack_content.ensures ∙ c.in_default-ack_content.is)
