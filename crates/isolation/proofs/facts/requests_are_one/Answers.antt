use Rattle.isolation.proofs.Consequences.RequestLaws.{one_request}
use Rattle.isolation.proofs.Belongs.Belonging.{world, inv_of}
use Rattle.isolation.proofs.facts.requests_are_one.Goals as goal

pub returns : goal.returns
returns c = λ g f w b. let i = inv_of g f w b in one_request (world w f b.entries i.0) i.1
