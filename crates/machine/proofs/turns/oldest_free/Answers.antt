use Rattle.std.proofs.Common.{rules}
use Rattle.machine.proofs.Oldest.{oldest_is, none_is}
use Rattle.machine.proofs.turns.oldest_free.Goals as goal

pub returns-clause-some : goal.returns-clause-some
returns-clause-some c = oldest_is _ _ c.args.directory.now (λ p r n words says. search rules) c.args.net.now.flights c.oldest.result c.oldest.ensures.some

pub returns-clause-none : goal.returns-clause-none
returns-clause-none c = none_is _ _ c.args.directory.now (λ p r n words says. search rules) c.args.net.now.flights c.oldest.result c.oldest.ensures.none
