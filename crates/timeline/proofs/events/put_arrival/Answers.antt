use Rattle.timeline.proofs.events.put_arrival.Goals as goal

pub returns-in-Some : goal.returns-in-Some
returns-in-Some g c = rw (c.in-Some.is) c.put_flow.ensures
