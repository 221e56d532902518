use Rattle.isolation.proofs.Consequences.UnreachableLaws.{unreachable}
use Rattle.isolation.proofs.Belongs.Belonging.{world, inv_of}
use Rattle.isolation.proofs.facts.unreachable_cases_never_occur.Goals as goal

pub returns : goal.returns
returns c = λ g f w b. let i = inv_of g f w b in unreachable (world w f b.entries i.0) i.1
