use Rattle.std.proofs.Common.{Ok, take}
use Rattle.std.specs.List.{flat_map}
use Rattle.texts.specs.Puts.{Puts}
use Rattle.pages.specs.Memory.{word_item}
use Rattle.pages.proofs.memory.put_words.Given as goal

abbrev pub invariant-loop-addr : goal.invariant-loop-addr
invariant-loop-addr g l =
    Puts (g.S.Sink.state l.initial.sink) (g.S.Sink.state l.sink) (flat_map (word_item g.row.SETS l.machine) (take l.addr-index l.words)) (Ok tt)
