use Rattle.directory.proofs.Kept.{is_first-sharers}
use Rattle.directory.proofs.entry.DirEntry.is_first.Goals as goal

pub returns-in-Nobody-None : goal.returns-in-Nobody-None
returns-in-Nobody-None c = is_first-sharers c.args.harts c.args.self.now c.requires.named c.is_empty.result c.in-Nobody-None.is-0 c.in-Nobody-None.is-1 c.is_empty.ensures
