use Rattle.flat.proofs.Committed.{entry_commits}
use Rattle.flat.proofs.laws.commits_are_whole.Goals as goal

pub returns : goal.returns
returns c = entry_commits
