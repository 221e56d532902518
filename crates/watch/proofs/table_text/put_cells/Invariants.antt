use Rattle.std.proofs.Common.{Ok}
use Rattle.std.specs.List.{flat_map, range_with_len}
use Rattle.texts.specs.Puts.{Puts}
use Rattle.watch.specs.Kinds.{count_at}
use Rattle.watch.specs.CountTexts.{cell}
use Rattle.watch.proofs.table_text.put_cells.Given as goal

abbrev pub invariant-loop-number : goal.invariant-loop-number
invariant-loop-number g l =
    Puts (g.S.Sink.state l.initial.sink) (g.S.Sink.state l.sink) (flat_map (cell (count_at l.counts) l.row) (range_with_len 0 l.number)) (Ok tt)
