use Rattle.std.proofs.Common.{ap, Ok}
use Rattle.texts.proofs.Putting.{puts-nothing, puts-same, puts-cut_at, puts-one_more}
use Rattle.pages.specs.Memory.{word_item}
use Rattle.pages.proofs.memory.put_words.Goals as goal

pub loop-addr-init : goal.loop-addr-init
loop-addr-init g c = puts-nothing _

pub returns-in_err-put_word : goal.returns-in_err-put_word
returns-in_err-put_word g c =
    puts-cut_at (word_item g.row.SETS c.args.machine.now) c.args.words.now c.loop-addr.addr-index _ c.loop-addr-test.true c.loop-addr.invariant c.in_err-put_word.was (puts-same (ap (word_item g.row.SETS c.args.machine.now) c.addr-item.is) c.put_word.ensures) c.from_residual.ensures.0

pub loop-addr-preserved : goal.loop-addr-preserved
loop-addr-preserved g c =
    puts-one_more (word_item g.row.SETS c.args.machine.now) c.args.words.now c.loop-addr.addr-index _ c.loop-addr-test.true c.loop-addr.invariant (puts-same {r = Ok tt} (ap (word_item g.row.SETS c.args.machine.now) c.addr-item.is) c.in_ok-put_word.ensures)
