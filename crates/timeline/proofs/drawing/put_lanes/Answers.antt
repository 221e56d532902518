use Rattle.texts.proofs.Putting.{puts-both, puts-cut}
use Rattle.timeline.specs.Drawings.{last_lane}
use Rattle.timeline.proofs.drawing.put_lanes.Goals as goal

pub returns-in_err-put_harts : goal.returns-in_err-put_harts
returns-in_err-put_harts g c = puts-cut (last_lane c.args.harts c.args.rows) c.in_err-put_harts.was c.put_harts.ensures c.from_residual.ensures.0

pub returns : goal.returns
returns g c = puts-both c.in_ok-put_harts.ensures c.put_last.ensures
