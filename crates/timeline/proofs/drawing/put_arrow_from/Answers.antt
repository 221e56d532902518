use Rattle.timeline.proofs.drawing.put_arrow_from.Goals as goal

pub returns-in-Some : goal.returns-in-Some
returns-in-Some g c = rw (c.in-Some.is) c.put_arrow.ensures
