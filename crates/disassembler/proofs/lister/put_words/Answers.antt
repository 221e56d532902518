use Rattle.std.proofs.Common.{◌+◌, ◌*◌, None, Ok, ap, slice_index_or}
use Rattle.texts.proofs.Putting.{puts-same, puts-cut_first, puts-one_first}
use Rattle.disassembler.specs.Listing.{line_if}
use Rattle.disassembler.proofs.lister.put_words.Goals as goal

pub returns-in_err-put_word : goal.returns-in_err-put_word
returns-in_err-put_word g c =
    puts-cut_first (λ i. line_if c.args.names.now (4 * (c.args.start + i)) (slice_index_or c.args.words.now i None)) c.loop-i-test.true c.loop-i.invariant c.in_err-put_word.was
    (puts-same (ap (λ a. line_if c.args.names.now a (slice_index_or c.args.words.now c.loop-i.i None)) c.new.ensures) c.put_word.ensures) c.from_residual.ensures.0

pub loop-i-preserved : goal.loop-i-preserved
loop-i-preserved g c =
    puts-one_first (λ i. line_if c.args.names.now (4 * (c.args.start + i)) (slice_index_or c.args.words.now i None)) c.loop-i.invariant
    (puts-same {r = Ok tt} (ap (λ a. line_if c.args.names.now a (slice_index_or c.args.words.now c.loop-i.i None)) c.new.ensures) c.in_ok-put_word.ensures)
