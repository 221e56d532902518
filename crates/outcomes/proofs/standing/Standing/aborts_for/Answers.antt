use Rattle.std.proofs.Common.{◌<◌, refl, sym, subst}
use Rattle.outcomes.specs.Standings.{flat_of}
use Rattle.outcomes.specs.Turns.{IsBack}
use Rattle.outcomes.proofs.Changed.{of_some, back_there}
use Rattle.outcomes.proofs.standing.Standing.aborts_for.Goals as goal

pub returns-in-Some-clause-some : goal.returns-in-Some-clause-some
returns-in-Some-clause-some c =
    let image = c.args.self.now.scene.image.now in
    let f = flat_of c.args.self.now in
    let back : IsBack image f c.args.id c.args.cause.now c.in-Some.change = of_some c.in_ok-change.field-0 c.in-Some.change (IsBack image f c.args.id c.args.cause.now) c.in-Some.is c.in_ok-change.ensures.some in
    (subst (λ k. k < f.setting.count) (sym back.id) c.requires, refl, back_there image f f c.args.id c.args.cause.now c.in-Some.change back refl)
