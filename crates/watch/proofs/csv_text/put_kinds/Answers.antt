use Rattle.texts.proofs.Putting.{puts-nothing, puts-cut_at}
use Rattle.watch.specs.Kinds.{count_at}
use Rattle.watch.specs.CountTexts.{csv_line}
use Rattle.watch.proofs.csv_text.put_kinds.Goals as goal

pub loop-kind-init : goal.loop-kind-init
loop-kind-init g c = puts-nothing _

pub returns-in_err-put_line : goal.returns-in_err-put_line
returns-in_err-put_line g c =
    puts-cut_at (csv_line (count_at c.args.counts.now) c.args.hart) c.args.kinds.now c.loop-kind.kind-index _ c.loop-kind-test.true c.loop-kind.invariant c.in_err-put_line.was c.put_line.ensures c.from_residual.ensures.0
