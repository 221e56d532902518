use Rattle.std.proofs.Common.{arith}
use Rattle.machine.specs.States.{geometry}
use Rattle.watch.proofs.Counted.{both_counted, none_counted}
use Rattle.watch.proofs.rows.take_counted.Goals as goal

pub loop-taken-init : goal.loop-taken-init
loop-taken-init g c = (omega arith, none_counted (geometry g.row.SETS g.row.WAYS) c.args.machine.now c.args.last.hart c.args.tally.now, c.requires)

pub loop-taken-preserved : goal.loop-taken-preserved
loop-taken-preserved g c =
    let so_far = c.loop-taken.invariant in
    let more = c.take_some-more in (
      let few = more.ensures.most in let less = c.loop-taken-test.true in omega (arith, few, less),
      both_counted (geometry g.row.SETS g.row.WAYS) c.args.machine.now c.loop-taken.machine more.new.machine c.args.last.hart c.loop-taken.now.hart more.result.1.hart c.loop-taken.taken more.result.0
          c.args.tally.now c.loop-taken.tally more.new.tally so_far.1 more.ensures.turns,
      more.ensures.quiescent,
    )
