use Rattle.texts.proofs.Putting.{puts-nothing, puts-cut_first, puts-one_first}
use Rattle.timeline.specs.Timelines.{hart_lane}
use Rattle.timeline.proofs.chart.put_harts.Goals as goal

pub loop-hart-init : goal.loop-hart-init
loop-hart-init g c = puts-nothing _

pub returns-in_err-put_hart : goal.returns-in_err-put_hart
returns-in_err-put_hart g c = puts-cut_first hart_lane c.loop-hart-test.true c.loop-hart.invariant c.in_err-put_hart.was c.put_hart.ensures c.from_residual.ensures.0

pub loop-hart-preserved : goal.loop-hart-preserved
loop-hart-preserved g c = puts-one_first hart_lane c.loop-hart.invariant c.in_ok-put_hart.ensures
