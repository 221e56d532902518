use Rattle.std.proofs.Common.{Ok, ap}
use Rattle.texts.proofs.Putting.{puts-nothing, puts-same, puts-cut_first, puts-one_first}
use Rattle.watch.specs.Kinds.{count_at}
use Rattle.watch.specs.CountTexts.{csv_lines}
use Rattle.watch.proofs.csv_text.put_harts.Goals as goal

pub loop-number-init : goal.loop-number-init
loop-number-init g c = puts-nothing _

pub returns-in_err-put_hart : goal.returns-in_err-put_hart
returns-in_err-put_hart g c =
    let text = csv_lines (count_at c.args.counts.now) in
    puts-cut_first text c.loop-number-test.true c.loop-number.invariant c.in_err-put_hart.was (puts-same (ap text c.new.ensures) c.put_hart.ensures) c.from_residual.ensures.0

pub loop-number-preserved : goal.loop-number-preserved
loop-number-preserved g c =
    let text = csv_lines (count_at c.args.counts.now) in
    puts-one_first text c.loop-number.invariant (puts-same {r = Ok tt} (ap text c.new.ensures) c.in_ok-put_hart.ensures)
