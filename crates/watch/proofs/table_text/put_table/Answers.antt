use Rattle.std.proofs.Common.{ap}
use Rattle.std.specs.List.{flat_map}
use Rattle.texts.proofs.Putting.{puts-same}
use Rattle.watch.specs.Kinds.{count_at}
use Rattle.watch.specs.CountTexts.{row_text}
use Rattle.watch.proofs.table_text.put_table.Goals as goal

pub returns : goal.returns
returns g c = puts-same (ap (flat_map (row_text (count_at c.args.counts.now) c.args.harts)) c.rows.ensures) c.put_rows.ensures
