use Rattle.texts.proofs.Putting.{puts-nothing, puts-cut_at}
use Rattle.watch.specs.Kinds.{count_at}
use Rattle.watch.specs.CountTexts.{row_text}
use Rattle.watch.proofs.table_text.put_rows.Goals as goal

pub loop-row-init : goal.loop-row-init
loop-row-init g c = puts-nothing _

pub returns-in_err-put_row : goal.returns-in_err-put_row
returns-in_err-put_row g c =
    puts-cut_at (row_text (count_at c.args.counts.now) c.args.harts) c.args.rows.now c.loop-row.row-index _ c.loop-row-test.true c.loop-row.invariant c.in_err-put_row.was c.put_row.ensures c.from_residual.ensures.0
