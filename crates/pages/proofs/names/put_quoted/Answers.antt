use Rattle.texts.proofs.Putting.{puts-nothing, puts-cut_at, puts-one_more}
use Rattle.pages.specs.Names.{byte_text}
use Rattle.pages.proofs.names.put_quoted.Goals as goal

pub loop-byte-init : goal.loop-byte-init
loop-byte-init g c = puts-nothing _

pub returns-in_err-put_byte : goal.returns-in_err-put_byte
returns-in_err-put_byte g c =
    puts-cut_at byte_text c.args.name.now c.loop-byte.byte-index _ c.loop-byte-test.true c.loop-byte.invariant c.in_err-put_byte.was c.put_byte.ensures c.from_residual.ensures.0

pub loop-byte-preserved : goal.loop-byte-preserved
loop-byte-preserved g c =
    puts-one_more byte_text c.args.name.now c.loop-byte.byte-index _ c.loop-byte-test.true c.loop-byte.invariant c.in_ok-put_byte.ensures
