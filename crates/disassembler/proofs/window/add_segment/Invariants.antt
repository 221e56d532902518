use Rattle.disassembler.proofs.Windows.{AddsBelow}
use Rattle.disassembler.proofs.window.add_segment.Given as goal

abbrev pub invariant-loop-word : goal.invariant-loop-word
invariant-loop-word l = AddsBelow l.segment l.start l.word l.initial.words l.words
