use Rattle.std.specs.List.{flat_map, range_with_len}
use Rattle.texts.proofs.Putting.{puts-both, puts-cut}
use Rattle.watch.specs.Kinds.{count_at}
use Rattle.watch.specs.CountTexts.{csv_lines}
use Rattle.watch.proofs.csv_text.put_csv.Goals as goal

pub returns-in_err-put_all : goal.returns-in_err-put_all
returns-in_err-put_all g c =
    puts-cut (flat_map (csv_lines (count_at c.args.counts.now)) (range_with_len 0 c.args.harts)) c.in_err-put_all.was c.put_all.ensures c.from_residual.ensures.0

pub returns : goal.returns
returns g c = puts-both c.in_ok-put_all.ensures c.put_harts.ensures
