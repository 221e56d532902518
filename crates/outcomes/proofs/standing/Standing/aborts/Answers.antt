use Rattle.std.proofs.Common.{Some, length, ap}
use Rattle.std.specs.Option.{option_map}
use Rattle.outcomes.specs.Harts.{tx_of, hart_of}
use Rattle.outcomes.specs.Standings.{flat_of}
use Rattle.outcomes.proofs.Changed.{rolled_back}
use Rattle.outcomes.proofs.standing.Standing.aborts.Goals as goal

pub returns-in_ok-aborted-in-Some-clause-some : goal.returns-in_ok-aborted-in-Some-clause-some
returns-in_ok-aborted-in-Some-clause-some c =
    let image = c.args.self.now.scene.image.now in
    let size = length image in
    rolled_back image (flat_of c.args.self.now) c.args.id (hart_of size c.hart-hart.result.now) (rw (c.index.ensures.value) at c.hart-hart.ensures)
    c.in_ok-aborted-in-Some.field-0 c.args.cause.now (tx_of size c.in-Some.tx) (ap (option_map (tx_of size)) c.in-Some.is) (c.in_ok-aborted-in-Some.ensures size)
