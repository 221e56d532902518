use Rattle.std.proofs.Common.{◌≡◌, arith, subst}
use Rattle.machine.specs.States.{geometry}
use Rattle.debugger.specs.Sessions.{Turns}
use Rattle.debugger.proofs.Going.{waits_more}
use Rattle.debugger.proofs.session.Session.step.Goals as goal

-- one more turn without an entry
pub loop-preserved : goal.loop-preserved
loop-preserved g c =
    let G = geometry g.row.SETS g.row.WAYS in (
      waits_more G c.loop.counter c.args.self.now c.loop.self c.turn.new.self c.loop.invariant.0 (subst (λ e. Turns G c.loop.self e c.turn.new.self) c.in-None.is c.in_ok-entry.ensures.made),
      c.in_ok-entry.ensures.runs c.in-None.is,
    )

-- all turns were made
pub returns-clause-told : goal.returns-clause-told
returns-clause-told g c =
    let all : c.loop.counter ≡ 1000000 = omega (arith, c.loop-test.false, c.loop.auto.counter-end) in
    (rw c.if-not-runs.false at c.runs.ensures, (c.loop.counter, all, c.loop.invariant.0))
