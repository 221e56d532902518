use Rattle.std.proofs.Common.{take, Ok}
use Rattle.std.specs.List.{flat_map}
use Rattle.texts.specs.Puts.{Puts}
use Rattle.watch.specs.Kinds.{count_at}
use Rattle.watch.specs.CountTexts.{row_text}
use Rattle.watch.proofs.table_text.put_rows.Given as goal

abbrev pub invariant-loop-row : goal.invariant-loop-row
invariant-loop-row g l =
    Puts (g.S.Sink.state l.initial.sink) (g.S.Sink.state l.sink) (flat_map (row_text (count_at l.counts) l.harts) (take l.row-index l.rows)) (Ok tt)
