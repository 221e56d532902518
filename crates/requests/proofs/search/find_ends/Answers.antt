use Rattle.requests.specs.Outputs.{Sinks}
use Rattle.requests.proofs.Finding.{ends_given}
use Rattle.requests.proofs.search.find_ends.Goals as goal

pub returns : goal.returns
returns g c =
    let before : Sinks = record { output = g.O.Sink.state c.args.out.now; file = g.T.Sink.state c.args.page.now } in
    let after : Sinks = record { output = g.O.Sink.state c.tell_ends.new.out; file = g.T.Sink.state c.tell_ends.new.page } in
    ends_given c.args.asked.now c.args.file.now before after c.in_ok-found.found.outcomes c.tell_ends.result c.in_ok-found.ensures.0 c.tell_ends.ensures
