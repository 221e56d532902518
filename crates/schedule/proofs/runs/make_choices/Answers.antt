use Rattle.std.proofs.Common.{◌<◌, ◌+◌, ℕ, arith, sym, subst}
use Rattle.std.proofs.lemmas.Result.{err_from_is_err_and}
use Rattle.machine.specs.States.{geometry}
use Rattle.schedule.specs.Begun.{HasSeen}
use Rattle.schedule.proofs.Seeing.{seen_none, seen_choice, stopped_choice}
use Rattle.schedule.proofs.runs.make_choices.Goals as goal

pub loop-choice-init : goal.loop-choice-init
loop-choice-init g c =
    let o = c.args.observer.now in
    let O = g.O.Observer in (
      seen_none (O.saw o) (O.missed o) (geometry g.row.SETS g.row.WAYS) c.args.choices.now c.args.machine.now c.last_hart-hart.result c.args.log.now c.last_hart-hart.ensures,
      omega arith,
    )

pub returns-in_err-hart : goal.returns-in_err-hart
returns-in_err-hart g c =
    let o = c.args.observer.now in
    let O = g.O.Observer in
    let p = err_from_is_err_and c.from_residual.result c.from_residual.ensures.1 in
    let stopped = c.in_err-hart.ensures in
    let less : c.loop-choice.choice-index < c.args.steps = omega (arith, c.loop-choice.invariant.1, c.if-left-eq0.false) in
    rw (p.1, p.2) (λ b unbegun. stopped_choice (O.saw o) (O.missed o) (geometry g.row.SETS g.row.WAYS) c.args.choices.now c.loop-choice.choice-index c.args.machine.now c.loop-choice.machine c.choose.new.machine
    c.loop-choice.hart c.args.log.now c.loop-choice.log c.choose.new.log c.loop-choice.invariant.0 b c.args.steps c.choice-item.result stopped.0 _ unbegun c.loop-choice-test.true c.choice-item.is less stopped.1 stopped.2)

pub loop-choice-preserved : goal.loop-choice-preserved
loop-choice-preserved g c =
    let o = c.args.observer.now in
    let O = g.O.Observer in
    let G = geometry g.row.SETS g.row.WAYS in
    let made = c.in_ok-hart.ensures in (
      subst (λ (i : ℕ). HasSeen (O.saw o) G c.args.choices.now (c.loop-choice.choice-index + 1) c.args.machine.now c.choose.new.machine i c.args.log.now c.choose.new.log) (sym made.3)
          (seen_choice (O.saw o) (O.missed o) G c.args.choices.now c.loop-choice.choice-index c.args.machine.now c.loop-choice.machine c.choose.new.machine c.loop-choice.hart
          c.args.log.now c.loop-choice.log c.choose.new.log c.loop-choice.invariant.0 c.choice-item.result made.0 c.loop-choice-test.true c.choice-item.is made.1 made.2),
      omega (arith, c.loop-choice.invariant.1, c.if-left-eq0.false),
    )
