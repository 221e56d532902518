use Rattle.isolation.proofs.Consequences.RequestLaws.{awaited}
use Rattle.isolation.proofs.Belongs.Belonging.{world, inv_of}
use Rattle.isolation.proofs.facts.each_message_is_awaited.Goals as goal

pub returns : goal.returns
returns c = λ g f w b. let i = inv_of g f w b in awaited (world w f b.entries i.0) i.1
