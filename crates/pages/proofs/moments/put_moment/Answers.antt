use Rattle.std.proofs.Common.{◌++◌, Ok, ap}
use Rattle.texts.proofs.Putting.{puts-both, puts-cut, puts-same}
use Rattle.machine.specs.States.{shown}
use Rattle.pages.specs.Moments.{actor_of, step_text, arrival_text, actor_text, rest_text}
use Rattle.pages.proofs.moments.put_moment.Goals as goal

pub returns-in_err-put_event : goal.returns-in_err-put_event
returns-in_err-put_event g c =
    let m = c.args.machine.now in
    let sets = g.row.SETS in
    puts-cut (step_text c.args.step.now ++ (arrival_text (shown sets m) c.args.arrival.now ++ (actor_text c.args.names.now sets m (actor_of c.args.step.now c.args.arrival.now) ++ rest_text sets c.args.words.now c.args.sent m)))
    c.in_err-put_event.was c.put_event.ensures c.from_residual.ensures.0

pub returns-in_err-put_step : goal.returns-in_err-put_step
returns-in_err-put_step g c =
    let m = c.args.machine.now in
    let sets = g.row.SETS in
    puts-both c.in_ok-put_event.ensures
    (puts-cut (arrival_text (shown sets m) c.args.arrival.now ++ (actor_text c.args.names.now sets m (actor_of c.args.step.now c.args.arrival.now) ++ rest_text sets c.args.words.now c.args.sent m))
    c.in_err-put_step.was c.put_step.ensures c.from_residual-in_err-put_step.ensures.0)

pub returns-in_err-put_arrival : goal.returns-in_err-put_arrival
returns-in_err-put_arrival g c =
    let m = c.args.machine.now in
    let sets = g.row.SETS in
    puts-both c.in_ok-put_event.ensures (puts-both c.in_ok-put_step.ensures
    (puts-cut (actor_text c.args.names.now sets m (actor_of c.args.step.now c.args.arrival.now) ++ rest_text sets c.args.words.now c.args.sent m) c.in_err-put_arrival.was c.put_arrival.ensures c.from_residual-in_err-put_arrival.ensures.0))

pub returns-in_err-put_actor : goal.returns-in_err-put_actor
returns-in_err-put_actor g c =
    let m = c.args.machine.now in
    let sets = g.row.SETS in
    puts-both c.in_ok-put_event.ensures (puts-both c.in_ok-put_step.ensures (puts-both c.in_ok-put_arrival.ensures
    (puts-cut (rest_text sets c.args.words.now c.args.sent m) c.in_err-put_actor.was (puts-same (ap (actor_text c.args.names.now sets m) c.actor.ensures) c.put_actor.ensures) c.from_residual-in_err-put_actor.ensures.0)))

pub returns : goal.returns
returns g c =
    puts-both c.in_ok-put_event.ensures (puts-both c.in_ok-put_step.ensures (puts-both c.in_ok-put_arrival.ensures
    (puts-both (puts-same {r = Ok tt} (ap (actor_text c.args.names.now g.row.SETS c.args.machine.now) c.actor.ensures) c.in_ok-put_actor.ensures) c.put_rest.ensures)))
