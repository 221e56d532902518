use Rattle.std.proofs.Common.{ℕ, Bool, arith, subst}
use Rattle.words.specs.declared.entry.Step.TheVariants.{Core}
use Rattle.machine.specs.States.{geometry}
use Rattle.machine.specs.Watch.{IsEnabledByRule}
use Rattle.schedule.proofs.Drawing.{draws_it, draws_on, draws_none}
use Rattle.schedule.proofs.chance.Chance.draw_ready.Goals as goal
use Rattle.schedule.proofs.chance.Chance.draw_ready.Goals.{then-is_enabled+then-below-eq0, then-is_enabled+else-below-eq0, else-is_enabled}

pub loop-number-preserved : goal.loop-number-preserved
loop-number-preserved g c =
    let test : ℕ → Bool → Type 0 = λ i. IsEnabledByRule (geometry g.row.SETS g.row.WAYS) c.args.machine.now (Core i) in
    let drawn = c.loop-number.drawn in
    let ready = c.loop-number.ready in
    let n = c.loop-number.number in
    let k = c.new-hart.result in
    elim c.if-is_enabled.branch [
      | then-is_enabled+then-below-eq0 w ↦ rw (w.drawn-is, w.ready-is) (draws_it test drawn ready n c.loop-number.invariant k c.new-hart.ensures (subst (test k) w.if-is_enabled.true c.is_enabled.ensures.rule))
      | then-is_enabled+else-below-eq0 w ↦ rw (w.drawn-is, w.ready-is) (draws_on test drawn ready n c.loop-number.invariant w.below.result (w.below.ensures (omega arith)) w.if-below-eq0.false)
      | else-is_enabled w ↦ rw (w.drawn-is, w.ready-is) (draws_none test drawn ready n c.loop-number.invariant k c.new-hart.ensures (subst (test k) w.if-is_enabled.false c.is_enabled.ensures.rule))
    ]
