use Rattle.std.proofs.Common.{◌≡◌, ◌≤◌, ◌<◌, ℕ, arith, length, refl, sym, subst, ◌∙◌}
use Rattle.outcomes.proofs.Begun.{AreBegun, begun_more, begun_within, begun_reserved, begun_flat}
use Rattle.outcomes.proofs.start.first_state.Goals as goal

pub loop-i-preserved : goal.loop-i-preserved
loop-i-preserved c =
    let kept = c.in_ok-state.ensures.kept in
    begun_more c.args.size c.args.entry c.args.count c.loop-i.pool c.keep_hart.new.self c.loop-i.state c.loop-i.i c.in_ok-state.field-0
    (omega (arith, c.loop-i-test.true, c.requires.count)) c.in_ok-state.ensures.grows c.loop-i.invariant
    (record { hart = kept.0; stands = kept.1; is = λ s size count. kept.2 c.args.size ∙ c.first_hart.ensures s size count })

pub returns-clause-within : goal.returns-clause-within
returns-clause-within c =
    let end : c.loop-i.i ≡ c.args.count = omega (arith, c.loop-i-test.false, c.loop-i.auto.i-end) in
    begun_within c.args.size c.args.entry c.args.count c.loop-i.pool c.loop-i.state c.requires.count
    (subst (λ n. AreBegun c.args.size c.args.entry c.args.count c.loop-i.pool c.loop-i.state n) end c.loop-i.invariant)

pub returns-clause-flat : goal.returns-clause-flat
returns-clause-flat c =
    let end : c.loop-i.i ≡ c.args.count = omega (arith, c.loop-i-test.false, c.loop-i.auto.i-end) in
    begun_flat c.args.size c.args.entry c.args.count c.loop-i.pool c.loop-i.state c.requires.count
    (subst (λ n. AreBegun c.args.size c.args.entry c.args.count c.loop-i.pool c.loop-i.state n) end c.loop-i.invariant)

pub returns-clause-reserved : goal.returns-clause-reserved
returns-clause-reserved c =
    let end : c.loop-i.i ≡ c.args.count = omega (arith, c.loop-i-test.false, c.loop-i.auto.i-end) in
    begun_reserved c.args.size c.args.entry c.args.count c.loop-i.pool c.loop-i.state c.requires.count
    (subst (λ n. AreBegun c.args.size c.args.entry c.args.count c.loop-i.pool c.loop-i.state n) end c.loop-i.invariant)
