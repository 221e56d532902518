use Rattle.isolation.proofs.Consequences.AckLaws.{undos}
use Rattle.isolation.proofs.Belongs.Belonging.{world, inv_of}
use Rattle.isolation.proofs.facts.undos_go_through.Goals as goal

pub returns : goal.returns
returns c = λ g f w b. let i = inv_of g f w b in undos (world w f b.entries i.0) i.1
