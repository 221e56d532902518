use Rattle.std.proofs.Common.{◌∙◌, ap, take, arith}
use Rattle.requests.specs.Quotes.{without_return}
use Rattle.requests.proofs.Quoting.{shown-more, short-front, room, shown-all}
use Rattle.requests.proofs.quote.quoted.Goals as goal

pub push-requires : goal.push-requires
push-requires c =
    (omega arith, room (take c.min.result c.without_return-text.result.now) c.loop-byte.byte-index c.loop-byte.shown.items c.loop-byte-test.true (short-front c.without_return-text.result.now c.min.result c.min.ensures) c.loop-byte.invariant)

pub loop-byte-preserved : goal.loop-byte-preserved
loop-byte-preserved c =
    c.push.ensures.items
    ∙ shown-more (take c.min.result c.without_return-text.result.now) c.loop-byte.byte-index _ c.shown_byte.result c.loop-byte.shown.items c.loop-byte-test.true c.loop-byte.invariant c.shown_byte.ensures

pub returns : goal.returns
returns c =
    shown-all c.args.line.now c.without_return-text.result.now c.loop-byte.shown.items c.min.result c.loop-byte.byte-index (c.without_return-text.ensures ∙ ap without_return c.as_bytes.ensures.value) c.min.ensures (omega arith) c.loop-byte.invariant
