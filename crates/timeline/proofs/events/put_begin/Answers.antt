use Rattle.timeline.proofs.events.put_begin.Goals as goal

pub returns-in-Begun : goal.returns-in-Begun
returns-in-Begun g c = rw (c.in-Begun.is) c.put_transaction.ensures
