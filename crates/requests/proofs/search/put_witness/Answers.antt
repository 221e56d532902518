use Rattle.std.proofs.Common.{sym, ◌≡◌, ◌∙◌, ap, Some}
use Rattle.std.specs.Option.{option_map}
use Rattle.requests.specs.Ends.{end_numbered}
use Rattle.requests.proofs.Witnessing.{place_within, witnessed}
use Rattle.requests.proofs.search.put_witness.Goals as goal

pub put_run-requires-clause-place : goal.put_run-requires-clause-place
put_run-requires-clause-place g c =
    let at : end_numbered c.args.ends.now c.in-Some.witness.outcome ≡ Some c.in-Some-end_numbered.end.now =
    sym c.end_numbered.ensures ∙ ap (option_map (λ e. e.now)) c.in-Some-end_numbered.is in
    place_within c.args.outcomes.now c.requires.ends.0 c.args.ends.now c.in-Some.witness.outcome c.in-Some-end_numbered.end.now c.requires.ends.1 at

pub returns-in-Some-end_numbered : goal.returns-in-Some-end_numbered
returns-in-Some-end_numbered g c =
    let at : end_numbered c.args.ends.now c.in-Some.witness.outcome ≡ Some c.in-Some-end_numbered.end.now =
    sym c.end_numbered.ensures ∙ ap (option_map (λ e. e.now)) c.in-Some-end_numbered.is in
    witnessed c.args.outcomes.now c.args.ends.now (g.T.Sink.state c.args.page.now) (g.T.Sink.state c.put_run.new.page) c.args.asked c.in-Some.witness c.in-Some-end_numbered.end.now c.in-Some.is at
    c.put_run.result c.put_run.ensures
