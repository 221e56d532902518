use Rattle.std.proofs.Common.{subst}
use Rattle.machine.specs.States.{geometry}
use Rattle.debugger.specs.Sessions.{Session}
use Rattle.debugger.specs.Debugging.{answers}
use Rattle.debugger.specs.Plays.{IsPlayed}
use Rattle.debugger.proofs.debugging.debug.Goals as goal

pub returns : goal.returns
returns g c = (
  c.play.new.session,
  subst (λ (s : Session). IsPlayed c.args.names.now (answers (geometry g.row.SETS g.row.WAYS) c.args.names.now) g.I.LineInput.gives c.args.prompt.now
      (record { session = s; input = c.args.input.now; told = g.S.Sink.state c.args.out.now; asked = g.P.Sink.state c.args.prompts.now })
      (record { session = c.play.new.session; input = c.play.new.input; told = g.S.Sink.state c.play.new.out; asked = g.P.Sink.state c.play.new.prompts }) c.play.result)
      c.new-session.ensures c.play.ensures,
)
