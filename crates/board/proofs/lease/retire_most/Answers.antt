use Rattle.std.proofs.Common.{◌≤◌, ◌+◌, inr, refl, arith}
use Rattle.board.proofs.Locals.{more_run, needs_still}
use Rattle.board.proofs.lease.retire_most.Goals as goal

pub returns-then-more-eq0-clause-stops : goal.returns-then-more-eq0-clause-stops
returns-then-more-eq0-clause-stops g c =
    let ss = c.args.text.now.segments.now in
    inr (needs_still g.row.SETS ss ss c.loop-made.hart c.retire-more.new.hart refl (c.retire-more.ensures.none c.if-more-eq0.true).0)

pub loop-made-preserved : goal.loop-made-preserved
loop-made-preserved g c =
    let few : c.loop-made.made + c.retire-more.result ≤ c.args.most = omega (arith, c.retire-more.ensures.most, c.loop-made-test.true) in (
      more_run g.row.SETS g.T.Trace.traces c.args.text.now.segments.now c.loop-made.made c.retire-more.result c.args.hart.now c.loop-made.hart c.retire-more.new.hart c.args.trace.now c.loop-made.trace
          c.retire-more.new.self c.loop-made.invariant.0 c.retire-more.ensures.ran,
      few,
    )
