use Rattle.std.proofs.Common.{arith}
use Rattle.machine.specs.States.{geometry}
use Rattle.watch.proofs.Counted.{arrived_counted}
use Rattle.watch.proofs.rows.take_arrivals.Goals as goal

pub loop-taken-init : goal.loop-taken-init
loop-taken-init g c = (c.serve_counted-taken.ensures.most, c.serve_counted-taken.ensures.turns)

-- one more
pub loop-taken-preserved : goal.loop-taken-preserved
loop-taken-preserved g c =
    let so_far = c.loop-taken.invariant in (
      omega (arith, c.loop-taken-test.true),
      arrived_counted (geometry g.row.SETS g.row.WAYS) c.args.machine.now c.loop-taken.machine c.make.new.machine c.loop-taken.taken c.in-Some.number c.args.tally.now c.loop-taken.tally c.make.new.tally so_far.1
          c.in-Some.ensures.some c.in-Ok.ensures.made,
    )
