use Rattle.std.proofs.Common.{ap₂}
use Rattle.texts.proofs.Putting.{puts-same}
use Rattle.machine.specs.States.{geometry}
use Rattle.schedule.specs.Courses.{course, forgotten}
use Rattle.timeline.specs.Drawings.{drawn}
use Rattle.timeline.proofs.Noting.{pictured, broken, forget_noted}
use Rattle.timeline.proofs.picture.put_picture.Goals as goal

pub returns-in-Ok : goal.returns-in-Ok
returns-in-Ok g c =
    pictured (geometry g.row.SETS g.row.WAYS) (course c.args.choices.now (g.C.Chooser.behind c.noted.new.chooser)) c.args.steps c.args.machine.now c.noted.new.machine c.in_ok-rows.rows.items (g.S.Sink.state c.args.sink.now) (g.S.Sink.state c.put_drawing.new.sink)
    c.in_ok-rows.ensures.ok
    (puts-same (ap₂ drawn c.harts-harts.ensures.value c.deref.ensures.value) c.in-Ok.ensures)

pub returns : goal.returns
returns g c =
    broken (geometry g.row.SETS g.row.WAYS) (course c.args.choices.now (forgotten (g.C.Chooser.behind c.noted.new.chooser))) c.args.steps c.args.machine.now c.noted.new.machine c.in_ok-rows.rows.items (g.S.Sink.state c.args.sink.now) (g.S.Sink.state c.put_drawing.new.sink)
    c.in-Err.field-0 (forget_noted (geometry g.row.SETS g.row.WAYS) c.args.choices.now (g.C.Chooser.behind c.noted.new.chooser) c.args.steps c.args.machine.now c.noted.new.machine c.in_ok-rows.rows.items c.in_ok-rows.ensures.ok)
    (puts-same (ap₂ drawn c.harts-harts.ensures.value c.deref.ensures.value) c.in-Err.ensures)
