use Rattle.std.proofs.Common.{◌++◌}
use Rattle.std.specs.List.{flat_map, range_with_len}
use Rattle.texts.proofs.Putting.{puts-both, puts-cut}
use Rattle.timeline.specs.Timelines.{hart_lane, last_lane}
use Rattle.timeline.proofs.chart.put_opening.Goals as goal

pub returns-in_err-put_all : goal.returns-in_err-put_all
returns-in_err-put_all g c =
    puts-cut (flat_map hart_lane (range_with_len 0 c.args.harts) ++ last_lane) c.in_err-put_all.was c.put_all.ensures c.from_residual.ensures.0

pub returns-in_err-put_harts : goal.returns-in_err-put_harts
returns-in_err-put_harts g c = puts-both c.in_ok-put_all.ensures (puts-cut last_lane c.in_err-put_harts.was c.put_harts.ensures c.from_residual-in_err-put_harts.ensures.0)

pub returns : goal.returns
returns g c = puts-both c.in_ok-put_all.ensures (puts-both c.in_ok-put_harts.ensures c.put_directory.ensures)
