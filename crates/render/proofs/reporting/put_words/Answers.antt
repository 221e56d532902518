use Rattle.std.proofs.Common.{ap, Ok}
use Rattle.render.specs.Reports.{word_text}
use Rattle.texts.proofs.Putting.{puts-nothing, puts-same, puts-cut_at, puts-one_more}
use Rattle.render.proofs.reporting.put_words.Goals as goal

pub loop-addr-init : goal.loop-addr-init
loop-addr-init g c = λ f belongs. puts-nothing _

pub returns-in_err-put_word : goal.returns-in_err-put_word
returns-in_err-put_word g c = λ f belongs.
    puts-cut_at (word_text f) c.args.words.now c.loop-addr.addr-index _ c.loop-addr-test.true (c.loop-addr.invariant f belongs) c.in_err-put_word.was (puts-same (ap (word_text f) c.addr-item.is) (c.put_word.ensures f belongs)) c.from_residual.ensures.0

pub loop-addr-preserved : goal.loop-addr-preserved
loop-addr-preserved g c = λ f belongs.
    puts-one_more (word_text f) c.args.words.now c.loop-addr.addr-index _ c.loop-addr-test.true (c.loop-addr.invariant f belongs) (puts-same {r = Ok tt} (ap (word_text f) c.addr-item.is) (c.in_ok-put_word.ensures f belongs))
