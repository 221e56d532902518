use Rattle.std.proofs.lemmas.Bool.{le-leb}
use Rattle.timeline.proofs.events.put_sent.Goals as goal

pub returns-then-sent-flight : goal.returns-then-sent-flight
returns-then-sent-flight g c = rw (le-leb c.args.sent c.args.flight.now.number c.if-sent-flight.true) c.put_flow.ensures
