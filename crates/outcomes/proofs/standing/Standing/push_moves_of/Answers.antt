use Rattle.std.proofs.lemmas.Result.{on_ok_weaker}
use Rattle.outcomes.specs.Standings.{flat_of}
use Rattle.outcomes.proofs.Alone.{adds_four, has_four}
use Rattle.outcomes.proofs.standing.Standing.push_moves_of.Goals as goal

pub returns-clause-adds : goal.returns-clause-adds
returns-clause-adds c =
    on_ok_weaker c.push_some-4.result
    (λ last. adds_four c.args.self.now.scene.image.now (flat_of c.args.self.now) c.args.id c.args.turns.now.items c.push_some.new.turns.items c.push_some-2.new.turns.items c.push_some-3.new.turns.items c.push_some-4.new.turns.items
    c.in_ok-own.field-0 c.in_ok-fails.field-0 c.in_ok-overflows.field-0 c.in_ok-gives_way.field-0 c.in_ok-push_some.ensures c.in_ok-push_some-2.ensures c.in_ok-push_some-3.ensures last
    c.in_ok-own.ensures.some c.in_ok-fails.ensures.some c.in_ok-overflows.ensures.some c.in_ok-gives_way.ensures.some)
    c.push_some-4.ensures

pub returns-clause-all : goal.returns-clause-all
returns-clause-all c =
    on_ok_weaker c.push_some-4.result
    (λ last. has_four c.args.self.now.scene.image.now (flat_of c.args.self.now) c.args.id c.args.turns.now.items c.push_some.new.turns.items c.push_some-2.new.turns.items c.push_some-3.new.turns.items c.push_some-4.new.turns.items
    c.in_ok-own.field-0 c.in_ok-fails.field-0 c.in_ok-overflows.field-0 c.in_ok-gives_way.field-0 c.in_ok-push_some.ensures c.in_ok-push_some-2.ensures c.in_ok-push_some-3.ensures last
    c.in_ok-own.ensures.some c.in_ok-fails.ensures.some c.in_ok-overflows.ensures.some c.in_ok-gives_way.ensures.some
    c.in_ok-own.ensures.none c.in_ok-fails.ensures.none c.in_ok-overflows.ensures.none c.in_ok-gives_way.ensures.none)
    c.push_some-4.ensures
