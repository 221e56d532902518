use Rattle.std.proofs.Common.{ℕ, Bool, false, arith, refl, sym, subst}
use Rattle.words.specs.declared.entry.Step.TheVariants.{Deliver}
use Rattle.machine.specs.States.{geometry}
use Rattle.machine.specs.Watch.{IsEnabledByRule}
use Rattle.network.proofs.Walks.{goes_on}
use Rattle.schedule.proofs.Drawing.{Draws, draws_it, draws_none, draws_on, draws_past, none_drawn}
use Rattle.schedule.proofs.Resting.{nothing_numbered}
use Rattle.schedule.proofs.Walking.{over, walked_all, walked_to}
use Rattle.schedule.proofs.chance.Chance.draw_arriving.Goals as goal
use Rattle.schedule.proofs.chance.Chance.draw_arriving.Goals.{then-is_enabled+then-below-eq0, then-is_enabled+else-below-eq0, else-is_enabled}

-- no more can arrive than have lower numbers
pub overflow_add-arriving : goal.overflow_add-arriving
overflow_add-arriving g c =
    let on = goes_on c.loop-flight.number c.args.machine.now.sent c.args.machine.now.flights c.in-Some.flight.now c.are_in_order.ensures.numbered (sym c.in-Some.ensures) in
    omega (arith, on.0, on.1, c.loop-flight.invariant.few, c.sent-next.ensures)

pub overflow_add-number : goal.overflow_add-number
overflow_add-number g c =
    let on = goes_on c.loop-flight.number c.args.machine.now.sent c.args.machine.now.flights c.in-Some.flight.now c.are_in_order.ensures.numbered (sym c.in-Some.ensures) in
    omega (arith, on.1, c.sent-next.ensures)

pub loop-flight-smaller : goal.loop-flight-smaller
loop-flight-smaller g c =
    let on = goes_on c.loop-flight.number c.args.machine.now.sent c.args.machine.now.flights c.in-Some.flight.now c.are_in_order.ensures.numbered (sym c.in-Some.ensures) in
    omega (arith, on.0, on.1)

pub loop-flight-preserved : goal.loop-flight-preserved
loop-flight-preserved g c =
    let v = c.args.machine.now in
    let test : ℕ → Bool → Type 0 = λ number. IsEnabledByRule (geometry g.row.SETS g.row.WAYS) v (Deliver number) in
    let drawn = c.loop-flight.drawn in
    let arriving = c.loop-flight.arriving in
    let n = c.in-Some.flight.now.number in
    let on = goes_on c.loop-flight.number v.sent v.flights c.in-Some.flight.now c.are_in_order.ensures.numbered (sym c.in-Some.ensures) in
    let before : Draws test drawn arriving n = draws_past test drawn arriving c.loop-flight.number c.loop-flight.invariant n on.0
    (λ fails. walked_to (λ k. test k false) v.flights c.loop-flight.number (nothing_numbered g.row.SETS g.row.WAYS v) fails c.in-Some.flight.now c.are_in_order.ensures.order (sym c.in-Some.ensures)) in
    elim c.if-is_enabled.branch [
      | then-is_enabled+then-below-eq0 w ↦ rw (w.drawn-is, w.arriving-is) (draws_it test drawn arriving n before n refl (subst (test n) w.if-is_enabled.true c.is_enabled.ensures.rule))
      | then-is_enabled+else-below-eq0 w ↦ rw (w.drawn-is, w.arriving-is) (draws_on test drawn arriving n before w.below.result (w.below.ensures (omega arith)) w.if-below-eq0.false)
      | else-is_enabled w ↦ rw (w.drawn-is, w.arriving-is) (draws_none test drawn arriving n before n refl (subst (test n) w.if-is_enabled.false c.is_enabled.ensures.rule))
    ]

pub returns-clause-none : goal.returns-clause-none
returns-clause-none g c =
    let v = c.args.machine.now in
    let test : ℕ → Bool → Type 0 = λ number. IsEnabledByRule (geometry g.row.SETS g.row.WAYS) v (Deliver number) in
    none_drawn test c.loop-flight.drawn c.loop-flight.arriving c.loop-flight.number c.loop-flight.invariant
    (λ fails. walked_all (λ k. test k false) v.flights c.loop-flight.number (nothing_numbered g.row.SETS g.row.WAYS v) fails (over c.loop-flight.number v.flights c.next_from.result c.next_from.ensures c.in_default.not-Some))
