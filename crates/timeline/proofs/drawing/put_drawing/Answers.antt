use Rattle.std.proofs.Common.{◌++◌, length}
use Rattle.std.specs.List.{flat_map}
use Rattle.texts.proofs.Putting.{puts-both, puts-cut}
use Rattle.timeline.specs.Shapes.{step_of}
use Rattle.timeline.specs.Drawings.{style, lanes, bar_of, arrow_of, closing}
use Rattle.timeline.proofs.drawing.put_drawing.Goals as goal

pub returns-in_err-put_size : goal.returns-in_err-put_size
returns-in_err-put_size g c =
    let rows = c.args.rows.now in
    let harts = c.args.harts in
    puts-cut (style ++ (lanes harts (length rows) ++ (flat_map (bar_of harts rows) rows ++ (flat_map (arrow_of harts rows) rows ++ (flat_map (step_of harts) rows ++ closing)))))
    c.in_err-put_size.was c.put_size.ensures c.from_residual.ensures.0

pub returns-in_err-put_style : goal.returns-in_err-put_style
returns-in_err-put_style g c =
    let rows = c.args.rows.now in
    let harts = c.args.harts in
    puts-both c.in_ok-put_size.ensures
    (puts-cut (lanes harts (length rows) ++ (flat_map (bar_of harts rows) rows ++ (flat_map (arrow_of harts rows) rows ++ (flat_map (step_of harts) rows ++ closing))))
    c.in_err-put_style.was c.put_style.ensures c.from_residual-in_err-put_style.ensures.0)

pub returns-in_err-put_lanes : goal.returns-in_err-put_lanes
returns-in_err-put_lanes g c =
    let rows = c.args.rows.now in
    let harts = c.args.harts in
    puts-both c.in_ok-put_size.ensures (puts-both c.in_ok-put_style.ensures
    (puts-cut (flat_map (bar_of harts rows) rows ++ (flat_map (arrow_of harts rows) rows ++ (flat_map (step_of harts) rows ++ closing)))
    c.in_err-put_lanes.was c.put_lanes.ensures c.from_residual-in_err-put_lanes.ensures.0))

pub returns-in_err-put_bars : goal.returns-in_err-put_bars
returns-in_err-put_bars g c =
    let rows = c.args.rows.now in
    let harts = c.args.harts in
    puts-both c.in_ok-put_size.ensures (puts-both c.in_ok-put_style.ensures (puts-both c.in_ok-put_lanes.ensures
    (puts-cut (flat_map (arrow_of harts rows) rows ++ (flat_map (step_of harts) rows ++ closing)) c.in_err-put_bars.was c.put_bars.ensures c.from_residual-in_err-put_bars.ensures.0)))

pub returns-in_err-put_arrows : goal.returns-in_err-put_arrows
returns-in_err-put_arrows g c =
    let rows = c.args.rows.now in
    puts-both c.in_ok-put_size.ensures (puts-both c.in_ok-put_style.ensures (puts-both c.in_ok-put_lanes.ensures (puts-both c.in_ok-put_bars.ensures
    (puts-cut (flat_map (step_of c.args.harts) rows ++ closing) c.in_err-put_arrows.was c.put_arrows.ensures c.from_residual-in_err-put_arrows.ensures.0))))

pub returns-in_err-put_steps : goal.returns-in_err-put_steps
returns-in_err-put_steps g c =
    puts-both c.in_ok-put_size.ensures (puts-both c.in_ok-put_style.ensures (puts-both c.in_ok-put_lanes.ensures (puts-both c.in_ok-put_bars.ensures (puts-both c.in_ok-put_arrows.ensures
    (puts-cut closing c.in_err-put_steps.was c.put_steps.ensures c.from_residual-in_err-put_steps.ensures.0)))))

pub returns : goal.returns
returns g c =
    puts-both c.in_ok-put_size.ensures (puts-both c.in_ok-put_style.ensures (puts-both c.in_ok-put_lanes.ensures (puts-both c.in_ok-put_bars.ensures (puts-both c.in_ok-put_arrows.ensures
    (puts-both c.in_ok-put_steps.ensures c.put_all.ensures)))))
