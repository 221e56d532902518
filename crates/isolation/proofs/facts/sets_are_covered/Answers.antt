use Rattle.isolation.proofs.Consequences.Owners.{owner_is}
use Rattle.isolation.proofs.Consequences.LineLaws.{covered}
use Rattle.isolation.proofs.Belongs.Belonging.{world, inv_of}
use Rattle.isolation.proofs.facts.sets_are_covered.Goals as goal

pub returns : goal.returns
returns c = λ g f w keys b below. let i = inv_of g f w b in covered (world w f b.entries i.0) i.1 keys (owner_is (world w f b.entries i.0) i.1 keys below)
