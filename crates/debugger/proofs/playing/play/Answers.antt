use Rattle.std.proofs.Common.{◌≡◌, arith}
use Rattle.debugger.proofs.Exchanging.{plays_more, played, broken, used_up}
use Rattle.debugger.proofs.playing.play.Goals as goal

pub returns-in-Ok-false : goal.returns-in-Ok-false
returns-in-Ok-false g c =
    played c.args.names.now (g.D.Debugged.answers c.args.names.now) g.I.LineInput.gives c.args.prompt.now c.loop-count._count
    (record { session = c.args.session.now; input = c.args.input.now; told = g.S.Sink.state c.args.out.now; asked = g.P.Sink.state c.args.prompts.now })
    (record { session = c.loop-count.session; input = c.loop-count.input; told = g.S.Sink.state c.loop-count.out; asked = g.P.Sink.state c.loop-count.prompts })
    (record { session = c.exchange.new.session; input = c.exchange.new.input; told = g.S.Sink.state c.exchange.new.out; asked = g.P.Sink.state c.exchange.new.prompts })
    c.loop-count.invariant c.exchange.result c.in-Ok-false.field-0 c.in-Ok-false.is c.in-Ok-false.field-0-test c.exchange.ensures

pub returns-in-Err : goal.returns-in-Err
returns-in-Err g c =
    broken c.args.names.now (g.D.Debugged.answers c.args.names.now) g.I.LineInput.gives c.args.prompt.now c.loop-count._count
    (record { session = c.args.session.now; input = c.args.input.now; told = g.S.Sink.state c.args.out.now; asked = g.P.Sink.state c.args.prompts.now })
    (record { session = c.loop-count.session; input = c.loop-count.input; told = g.S.Sink.state c.loop-count.out; asked = g.P.Sink.state c.loop-count.prompts })
    (record { session = c.exchange.new.session; input = c.exchange.new.input; told = g.S.Sink.state c.exchange.new.out; asked = g.P.Sink.state c.exchange.new.prompts })
    c.loop-count.invariant c.exchange.result c.in-Err.fault c.in-Err.is c.exchange.ensures

pub loop-count-preserved : goal.loop-count-preserved
loop-count-preserved g c =
    plays_more c.args.names.now (g.D.Debugged.answers c.args.names.now) g.I.LineInput.gives c.args.prompt.now c.loop-count._count
    _
    (record { session = c.loop-count.session; input = c.loop-count.input; told = g.S.Sink.state c.loop-count.out; asked = g.P.Sink.state c.loop-count.prompts })
    (record { session = c.exchange.new.session; input = c.exchange.new.input; told = g.S.Sink.state c.exchange.new.out; asked = g.P.Sink.state c.exchange.new.prompts })
    c.loop-count.invariant c.exchange.result c.in-Ok-true.field-0 c.in-Ok-true.is c.in-Ok-true.field-0-test c.exchange.ensures

pub returns : goal.returns
returns g c =
    let all : c.loop-count._count ≡ 18446744073709551615 = omega (arith, c.loop-count-test.false, c.loop-count.auto._count-end) in
    used_up c.args.names.now (g.D.Debugged.answers c.args.names.now) g.I.LineInput.gives c.args.prompt.now c.loop-count._count
    (record { session = c.args.session.now; input = c.args.input.now; told = g.S.Sink.state c.args.out.now; asked = g.P.Sink.state c.args.prompts.now })
    (record { session = c.loop-count.session; input = c.loop-count.input; told = g.S.Sink.state c.loop-count.out; asked = g.P.Sink.state c.loop-count.prompts })
    c.loop-count.invariant all
