use Rattle.std.proofs.Common.{◌≡◌, ℕ, arith, subst}
use Rattle.outcomes.specs.Standings.{flat_of}
use Rattle.outcomes.proofs.Turned.{Below, below_more, all_there, all_moves}
use Rattle.outcomes.proofs.standing.Standing.all_turns.Goals as goal

pub loop-i-preserved : goal.loop-i-preserved
loop-i-preserved c =
    below_more c.args.self.now.scene.image.now (flat_of c.args.self.now) c.loop-i.i c.new-id.result c.loop-i.turns.items c.push_moves_of.new.turns.items c.push_moves_with.new.turns.items
    c.new-id.ensures c.loop-i.invariant c.in_ok-push_moves_of.ensures.adds c.in_ok-push_moves_of.ensures.all c.in_ok-push_moves_with.ensures.adds c.in_ok-push_moves_with.ensures.all

pub returns-clause-complete : goal.returns-clause-complete
returns-clause-complete c =
    let image = c.args.self.now.scene.image.now in
    let f = flat_of c.args.self.now in
    let end : c.loop-i.i ≡ c.args.self.now.scene.count = omega (arith, c.loop-i-test.false, c.loop-i.auto.i-end, c.args.self.now.counted) in
    all_there image f c.loop-i.turns.items (subst (λ n. Below image f n c.loop-i.turns.items) end c.loop-i.invariant)
