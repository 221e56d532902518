use Rattle.std.proofs.Common.{ℕ, sym, ◌∙◌, refl}
use Rattle.outcomes.specs.Standings.{flat_of}
use Rattle.outcomes.proofs.Together.{pair_more}
use Rattle.outcomes.proofs.standing.Standing.push_moves_with.Goals as goal

pub loop-j-preserved : goal.loop-j-preserved
loop-j-preserved c =
    pair_more c.args.self.now.scene.image.now (flat_of c.args.self.now) c.args.id c.args.turns.now.items c.loop-j.turns.items c.push_some.new.turns.items
    c.new-other.result c.loop-j.j c.in_ok-give_way_together.field-0 c.in_ok-push_some.ensures c.new-other.ensures c.loop-j.invariant c.in_ok-give_way_together.ensures.some c.in_ok-give_way_together.ensures.none
