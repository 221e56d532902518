use Rattle.std.proofs.Common.{Ok, take}
use Rattle.std.specs.List.{flat_map, enumerate_from}
use Rattle.texts.specs.Puts.{Puts}
use Rattle.requests.specs.EndTexts.{end_text}
use Rattle.requests.proofs.ends_text.put_each.Given as goal

abbrev pub invariant-loop-k : goal.invariant-loop-k
invariant-loop-k g l = Puts (g.S.Sink.state l.initial.sink) (g.S.Sink.state l.sink) (flat_map end_text (take l.k (enumerate_from 1 l.ends))) (Ok tt)
