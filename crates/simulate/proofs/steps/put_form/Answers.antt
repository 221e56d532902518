use Rattle.machine.specs.States.{geometry}
use Rattle.schedule.specs.Courses.{course, forgotten}
use Rattle.simulate.proofs.ShownRuns.{as_trace, as_timeline, as_picture, as_page}
use Rattle.simulate.proofs.steps.put_form.Goals as goal

pub returns-in-Trace : goal.returns-in-Trace
returns-in-Trace g c =
    rw c.in-Trace.is (as_trace c.args.names.now (geometry g.row.SETS g.row.WAYS) c.args.words.now (course c.args.choices.now (g.C.Chooser.behind c.put_trace.new.chooser)) (course c.args.choices.now (forgotten (g.C.Chooser.behind c.put_trace.new.chooser))) c.args.steps c.args.machine.now c.put_trace.new.machine (g.T.Sink.state c.args.chart.now.sink) (g.T.Sink.state c.put_trace.new.sink) c.put_trace.result c.put_trace.ensures)

pub returns-in-Timeline : goal.returns-in-Timeline
returns-in-Timeline g c =
    rw c.in-Timeline.is (as_timeline c.args.names.now (geometry g.row.SETS g.row.WAYS) c.args.words.now (course c.args.choices.now (g.C.Chooser.behind c.put_timeline.new.chooser)) (course c.args.choices.now (forgotten (g.C.Chooser.behind c.put_timeline.new.chooser))) c.args.steps c.args.machine.now c.put_timeline.new.machine (g.T.Sink.state c.args.chart.now.sink) (g.T.Sink.state c.put_timeline.new.chart.sink) c.put_timeline.result c.put_timeline.ensures)

pub returns-in-Picture : goal.returns-in-Picture
returns-in-Picture g c =
    rw c.in-Picture.is (as_picture c.args.names.now (geometry g.row.SETS g.row.WAYS) c.args.words.now (course c.args.choices.now (g.C.Chooser.behind c.put_picture.new.chooser)) (course c.args.choices.now (forgotten (g.C.Chooser.behind c.put_picture.new.chooser))) c.args.steps c.args.machine.now c.put_picture.new.machine (g.T.Sink.state c.args.chart.now.sink) (g.T.Sink.state c.put_picture.new.sink) c.put_picture.result c.put_picture.ensures)

pub returns-in-Page : goal.returns-in-Page
returns-in-Page g c =
    rw c.in-Page.is (as_page c.args.names.now (geometry g.row.SETS g.row.WAYS) c.args.words.now (course c.args.choices.now (g.C.Chooser.behind c.put_page.new.chooser)) (course c.args.choices.now (forgotten (g.C.Chooser.behind c.put_page.new.chooser))) c.args.steps c.args.machine.now c.put_page.new.machine (g.T.Sink.state c.args.chart.now.sink) (g.T.Sink.state c.put_page.new.sink) c.put_page.result c.put_page.ensures)
