use Rattle.std.proofs.Common.{◌-◌, ◌+◌, replicate, Ok}
use Rattle.texts.proofs.Putting.{puts-nothing, puts-same, puts-cut, puts-both}
use Rattle.schedule.specs.Written.{text_of}
use Rattle.schedule.proofs.Repeats.{once_more, rest_of}
use Rattle.schedule.proofs.writing.put_batch.Goals as goal

pub loop-made-init : goal.loop-made-init
loop-made-init g c = puts-nothing _

pub returns-in_err-put_line : goal.returns-in_err-put_line
returns-in_err-put_line g c =
    let b = c.args.batch.now in
    puts-same (rest_of b.choice c.loop-made._made b.times c.loop-made-test.true)
    (puts-cut (text_of (replicate (b.times - (c.loop-made._made + 1)) b.choice)) c.in_err-put_line.was (puts-both c.loop-made.invariant c.put_line.ensures) c.from_residual.ensures.0)

pub loop-made-preserved : goal.loop-made-preserved
loop-made-preserved g c = puts-same {r = Ok tt} (once_more c.args.batch.now.choice c.loop-made._made) (puts-both c.loop-made.invariant c.in_ok-put_line.ensures)
