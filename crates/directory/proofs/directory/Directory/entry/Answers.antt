use Rattle.directory.proofs.Kept.{NamesBelow-first}
use Rattle.directory.proofs.directory.Directory.entry.Goals as goal

pub returns-in-None-clause-named : goal.returns-in-None-clause-named
returns-in-None-clause-named c = NamesBelow-first _ _ c.first.ensures
