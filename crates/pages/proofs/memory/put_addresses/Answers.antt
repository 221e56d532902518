use Rattle.std.proofs.Common.{ap, Ok, ◌∙◌}
use Rattle.texts.proofs.Putting.{puts-nothing, puts-same, puts-cut_at, puts-one_more}
use Rattle.pages.specs.Memory.{digits_item}
use Rattle.pages.proofs.memory.put_addresses.Goals as goal

pub loop-addr-init : goal.loop-addr-init
loop-addr-init g c = puts-nothing _

pub returns-in_err-put_digits : goal.returns-in_err-put_digits
returns-in_err-put_digits g c =
    puts-cut_at digits_item c.args.words.now c.loop-addr.addr-index _ c.loop-addr-test.true c.loop-addr.invariant c.in_err-put_digits.was (puts-same (ap digits_item (c.value.ensures ∙ c.addr-item.is)) c.put_digits.ensures) c.from_residual.ensures.0

pub loop-addr-preserved : goal.loop-addr-preserved
loop-addr-preserved g c =
    puts-one_more digits_item c.args.words.now c.loop-addr.addr-index _ c.loop-addr-test.true c.loop-addr.invariant (puts-same {r = Ok tt} (ap digits_item (c.value.ensures ∙ c.addr-item.is)) c.in_ok-put_digits.ensures)
