use Rattle.std.proofs.Common.{sym}
use Rattle.timeline.proofs.drawing.put_bar_to.Goals as goal

pub returns-in-Some : goal.returns-in-Some
returns-in-Some g c = rw (c.in-Some.is, sym c.x_of-x.ensures, sym c.y_at-from.ensures, sym c.outcome.ensures, sym c.y_at.ensures) c.put_bar.ensures

pub returns-in-None : goal.returns-in-None
returns-in-None g c = rw (c.in-None.is, sym c.x_of-x.ensures, sym c.y_at-from.ensures, sym c.y_at-in-None.ensures) c.put_bar-in-None.ensures
