use Rattle.std.proofs.Common.{◌≡◌, ◌∙◌, ◌<◌, length, arith}
use Rattle.debugger.proofs.Keeping.{with_room, without_room}
use Rattle.debugger.proofs.input.keep.Goals as goal

pub returns-then-not-is_full : goal.returns-then-not-is_full
returns-then-not-is_full c =
    let room : length c.args.kept.now.items < 257 = grind (arith, c.is_full.ensures.value, c.is_full.ensures.fits, c.if-not-is_full.true) in
    c.push.ensures.items ∙ with_room c.args.kept.now.items c.args.byte room

pub returns-else-not-is_full : goal.returns-else-not-is_full
returns-else-not-is_full c =
    let full : length c.args.kept.now.items ≡ 257 = grind (arith, c.is_full.ensures.value, c.is_full.ensures.fits, c.if-not-is_full.false) in
    without_room c.args.kept.now.items c.args.byte full
