use Rattle.isolation.proofs.Consequences.Owners.{owner_is}
use Rattle.isolation.proofs.Consequences.ValueInPlace.{in_place_is}
use Rattle.isolation.proofs.Consequences.LineLaws.{lines_agree}
use Rattle.isolation.proofs.Belongs.Belonging.{world, inv_of}
use Rattle.isolation.proofs.facts.lines_agree.Goals as goal

pub returns : goal.returns
returns c = λ g f w keys b below.
    let i = inv_of g f w b in
    let x = world w f b.entries i.0 in
    lines_agree x i.1 keys (owner_is x i.1 keys below) (in_place_is x i.1 keys below)
