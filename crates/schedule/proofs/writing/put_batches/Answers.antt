use Rattle.std.proofs.Common.{◌≡◌, Ok, ap, ◌∙◌, arith, take, take_all}
use Rattle.std.specs.List.{flat_map}
use Rattle.texts.proofs.Putting.{puts-nothing, puts-same, puts-cut_at, puts-one_more}
use Rattle.schedule.proofs.Repeats.{batch_text, by_batch}
use Rattle.schedule.proofs.writing.put_batches.Goals as goal

pub loop-batch-init : goal.loop-batch-init
loop-batch-init g c = puts-nothing _

pub returns-in_err-put_batch : goal.returns-in_err-put_batch
returns-in_err-put_batch g c =
    puts-same (by_batch c.args.batches.now)
    (puts-cut_at batch_text c.args.batches.now c.loop-batch.batch-index c.batch-item.result c.loop-batch-test.true c.loop-batch.invariant c.in_err-put_batch.was
    (puts-same (ap batch_text c.batch-item.is) c.put_batch.ensures) c.from_residual.ensures.0)

pub loop-batch-preserved : goal.loop-batch-preserved
loop-batch-preserved g c =
    puts-one_more batch_text c.args.batches.now c.loop-batch.batch-index c.batch-item.result c.loop-batch-test.true c.loop-batch.invariant
    (puts-same {r = Ok tt} (ap batch_text c.batch-item.is) c.in_ok-put_batch.ensures)

pub returns : goal.returns
returns g c =
    let whole : take c.loop-batch.batch-index c.args.batches.now ≡ c.args.batches.now = take_all c.loop-batch.batch-index c.args.batches.now (omega (arith, c.loop-batch-test.false)) in
    puts-same {r = Ok tt} (ap (flat_map batch_text) whole ∙ by_batch c.args.batches.now) c.loop-batch.invariant
