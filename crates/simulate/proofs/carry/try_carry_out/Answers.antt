use Rattle.std.proofs.Common.{sym, ◌∙◌}
use Rattle.simulate.specs.Carried.{asked_for}
use Rattle.requests.specs.Outputs.{Sinks}
use Rattle.simulate.proofs.Carrying.{carried}
use Rattle.simulate.proofs.carry.try_carry_out.Goals as goal

pub returns-in-None : goal.returns-in-None
returns-in-None g c =
    let before : Sinks = record { output = g.O.Sink.state c.args.out.now; file = g.T.Sink.state c.args.chart.now.sink } in
    let after : Sinks = record { output = g.O.Sink.state c.on_file.new.out; file = g.T.Sink.state c.on_file.new.page } in
    carried (asked_for c.args.request.now) g.I.LineInput.gives c.args.file.now c.args.schedule.now c.args.prompt.now c.args.input.now before after (g.E.Sink.state c.args.error.now)
    c.args.request.now c.on_file.result (sym c.cache_of.ensures ∙ c.in-None.is) c.on_file.ensures
