use Rattle.std.proofs.Common.{◌+◌, ◌*◌, None, Ok, slice_index_or}
use Rattle.std.specs.List.{flat_map, range_with_len}
use Rattle.texts.specs.Puts.{Puts}
use Rattle.disassembler.specs.Listing.{line_if}
use Rattle.disassembler.proofs.lister.put_words.Given as goal

abbrev pub invariant-loop-i : goal.invariant-loop-i
invariant-loop-i g l =
    Puts (g.S.Sink.state l.initial.out) (g.S.Sink.state l.out)
    (flat_map (λ i. line_if l.names (4 * (l.start + i)) (slice_index_or l.words i None)) (range_with_len 0 l.i)) (Ok tt)
