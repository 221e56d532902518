use Rattle.flat.proofs.Alone.{entry_leaves, view_stays}
use Rattle.flat.proofs.laws.writes_are_seen_alone.Goals as goal

pub returns-clause-views : goal.returns-clause-views
returns-clause-views c = λ f g e j a k inside ne. view_stays f g e k j a ne (entry_leaves f g e k inside a)
