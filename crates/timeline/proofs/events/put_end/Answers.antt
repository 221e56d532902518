use Rattle.timeline.proofs.events.put_end.Goals as goal

pub returns-in-Committed : goal.returns-in-Committed
returns-in-Committed g c = rw (c.in-Committed.is) c.put_outcome.ensures

pub returns-in-Aborted : goal.returns-in-Aborted
returns-in-Aborted g c = rw (c.in-Aborted.is) c.put_outcome-in-Aborted.ensures
