use Rattle.std.proofs.Common.{take, Ok}
use Rattle.std.specs.List.{flat_map}
use Rattle.texts.specs.Puts.{Puts}
use Rattle.watch.specs.Kinds.{count_at}
use Rattle.watch.specs.CountTexts.{csv_line}
use Rattle.watch.proofs.csv_text.put_kinds.Given as goal

abbrev pub invariant-loop-kind : goal.invariant-loop-kind
invariant-loop-kind g l =
    Puts (g.S.Sink.state l.initial.sink) (g.S.Sink.state l.sink) (flat_map (csv_line (count_at l.counts) l.hart) (take l.kind-index l.kinds)) (Ok tt)
