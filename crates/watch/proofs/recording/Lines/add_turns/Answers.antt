use Rattle.std.proofs.Common.{arith}
use Rattle.machine.specs.States.{geometry}
use Rattle.watch.proofs.RowLines.{both_added, none_added}
use Rattle.watch.proofs.recording.Lines.add_turns.Goals as goal

pub loop-taken-init : goal.loop-taken-init
loop-taken-init g c = (omega arith, none_added (geometry g.row.SETS g.row.WAYS) c.args.machine.now c.args.last.hart c.args.self.now, c.requires)

pub loop-taken-preserved : goal.loop-taken-preserved
loop-taken-preserved g c =
    let so_far = c.loop-taken.invariant in
    let more = c.add_some-more in (
      let few = more.ensures.most in omega (arith, few, so_far.0),
      both_added (geometry g.row.SETS g.row.WAYS) c.args.machine.now c.loop-taken.machine more.new.machine c.args.last.hart c.loop-taken.now.hart more.result.1.hart c.loop-taken.taken more.result.0
          c.args.self.now c.loop-taken.self more.new.self so_far.1 more.ensures.turns,
      more.ensures.quiescent,
    )
