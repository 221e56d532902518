use Rattle.isolation.proofs.Consequences.AckLaws.{acknowledged}
use Rattle.isolation.proofs.Belongs.Belonging.{world, inv_of}
use Rattle.isolation.proofs.facts.who_acknowledged_has_given_up.Goals as goal

pub returns : goal.returns
returns c = λ g f w b. let i = inv_of g f w b in acknowledged (world w f b.entries i.0) i.1
