use Rattle.std.proofs.Common.{MatchResult, subst, sym}
use Rattle.machine.specs.States.{geometry}
use Rattle.command_line.specs.declared.request.Way.{Way}
use Rattle.simulate.specs.Carried.{RunGives, RunFails}
use Rattle.requests.specs.Outputs.{Sinks}
use Rattle.simulate.proofs.carry.make_run.Goals as goal

pub returns-in-Turns : goal.returns-in-Turns
returns-in-Turns g c =
    let before : Sinks = record { output = g.O.Sink.state c.args.out.now; file = g.T.Sink.state c.args.chart.now.sink } in
    let after : Sinks = record { output = g.O.Sink.state c.run_by_steps.new.out; file = g.T.Sink.state c.run_by_steps.new.chart.sink } in
    let G = geometry g.row.SETS g.row.WAYS in
    subst (λ (w : Way). MatchResult c.run_by_steps.result (RunGives G c.args.run.now c.args.file.now c.args.schedule.now before after w) (RunFails G c.args.run.now c.args.file.now c.args.schedule.now before after w)) (sym c.in-Turns.is) c.run_by_steps.ensures

pub returns-in-Chance : goal.returns-in-Chance
returns-in-Chance g c =
    let before : Sinks = record { output = g.O.Sink.state c.args.out.now; file = g.T.Sink.state c.args.chart.now.sink } in
    let after : Sinks = record { output = g.O.Sink.state c.run_by_chance.new.out; file = g.T.Sink.state c.run_by_chance.new.chart.sink } in
    let G = geometry g.row.SETS g.row.WAYS in
    subst (λ (w : Way). MatchResult c.run_by_chance.result (RunGives G c.args.run.now c.args.file.now c.args.schedule.now before after w) (RunFails G c.args.run.now c.args.file.now c.args.schedule.now before after w)) (sym c.in-Chance.is) c.run_by_chance.ensures

pub returns-in-Kept : goal.returns-in-Kept
returns-in-Kept g c =
    let before : Sinks = record { output = g.O.Sink.state c.args.out.now; file = g.T.Sink.state c.args.chart.now.sink } in
    let after : Sinks = record { output = g.O.Sink.state c.run_and_keep.new.out; file = g.T.Sink.state c.run_and_keep.new.chart.sink } in
    let G = geometry g.row.SETS g.row.WAYS in
    subst (λ (w : Way). MatchResult c.run_and_keep.result (RunGives G c.args.run.now c.args.file.now c.args.schedule.now before after w) (RunFails G c.args.run.now c.args.file.now c.args.schedule.now before after w)) (sym c.in-Kept.is) c.run_and_keep.ensures
