use Rattle.std.proofs.Common.{[], ◌∷◌, subst}
use Rattle.table.specs.Program.{Segment}
use Rattle.disassembler.specs.Listing.{AddsWords}
use Rattle.disassembler.proofs.Windows.{adds-segment}
use Rattle.disassembler.proofs.window.add_words.Goals as goal

pub loop-segment-preserved : goal.loop-segment-preserved
loop-segment-preserved c =
    adds-segment c.args.segments.now c.loop-segment.segment-index c.args.start c.segment-item.result c.args.words.now c.loop-segment.words c.add_segment.new.words
    c.loop-segment-test.true c.loop-segment.invariant
    (subst (λ (s : Segment). AddsWords (s ∷ []) c.args.start c.loop-segment.words c.add_segment.new.words) c.segment-item.is c.add_segment.ensures)
