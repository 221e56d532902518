use Rattle.std.proofs.Common.{◌<◌, arith}
use Rattle.machine.specs.States.{geometry}
use Rattle.schedule.specs.Courses.{course}
use Rattle.schedule.specs.Observed.{joined}
use Rattle.watch.proofs.Few.{told}
use Rattle.watch.proofs.Tallying.{adds_all}
use Rattle.watch.proofs.counting.count_run.Goals as goal

pub returns-in-Ok-clause-ok : goal.returns-in-Ok-clause-ok
returns-in-Ok-clause-ok g c =
    let seen = c.in-Ok.ensures in
    let small : c.args.steps < 4294967296 = omega (arith, c.ranges.steps.fits) in
    told (geometry g.row.SETS g.row.WAYS) (course c.args.choices.now (g.C.Chooser.behind c.run.new.chooser)) c.args.steps c.args.machine.now c.run.new.machine c.new-tally.result c.run.new.log (joined seen.0) small seen.1
    c.new-tally.ensures.harts c.new-tally.ensures.machine c.new-tally.ensures.fresh (adds_all g.row.SETS seen.0 c.new-tally.result c.run.new.log seen.2)
