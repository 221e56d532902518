use Rattle.std.proofs.Common.{take}
use Rattle.disassembler.specs.Listing.{AddsWords}
use Rattle.disassembler.proofs.window.add_words.Given as goal

abbrev pub invariant-loop-segment : goal.invariant-loop-segment
invariant-loop-segment l = AddsWords (take l.segment-index l.segments) l.start l.initial.words l.words
