use Rattle.machine.specs.States.{geometry}
use Rattle.debugger.proofs.Going.{runs_more}
use Rattle.debugger.proofs.session.Session.run.Goals as goal

-- one more turn that lets the run go on
pub loop-preserved : goal.loop-preserved
loop-preserved g c =
    runs_more (geometry g.row.SETS g.row.WAYS) c.loop.counter c.args.self.now c.loop.self c.turn.new.self _ c.loop.invariant c.if-not-runs.ensures c.in_ok-entry.ensures.made c.in-None.ensures.none
