use Rattle.std.proofs.Common.{◌≤◌, ◌+◌, arith}
use Rattle.machine.specs.Lent.{RetiresAlone}
use Rattle.board.proofs.Locals.{one_more}
use Rattle.board.proofs.trace.skim.Goals as goal

-- one more word
pub loop-made-preserved : goal.loop-made-preserved
loop-made-preserved g c =
    let so_far = c.loop-made.invariant in
    let word = c.in-Some.ensures in
    let ss = c.args.text.now.segments.now in
    let one : RetiresAlone g.row.SETS ss c.loop-made.hart c.in-Some._entry c.advance_active.new.self = record { alone = word.made.0; stays = word.stays; ways = word.ways } in
    let few : c.loop-made.made + 1 ≤ c.args.most = omega (arith, c.loop-made-test.true) in
    (one_more g.row.SETS ss c.loop-made.made c.args.hart.now c.loop-made.hart c.advance_active.new.self c.in-Some._entry so_far.0 one, few, word.active)
