use Rattle.std.proofs.Common.{Bool, subst, inr, arith}
use Rattle.machine.specs.States.{geometry}
use Rattle.board.specs.Visits.{PaysOne}
use Rattle.board.proofs.Payments.{visit_first, visit_more, always_err}
use Rattle.board.proofs.board.Board.visit.Goals as goal

pub loop-made-init : goal.loop-made-init
loop-made-init g c = visit_first (geometry g.row.SETS g.row.WAYS) g.J.Journal.tells c.args.id c.args.self.now c.core.new.self c.in_ok-core.ensures.ok

pub loop-made-preserved : goal.loop-made-preserved
loop-made-preserved g c =
    visit_more (geometry g.row.SETS g.row.WAYS) g.J.Journal.tells c.args.id c.loop-made.made c.args.self.now c.loop-made.self c.pay_off.new.self c.loop-made.invariant
    (subst (λ (b : Bool). PaysOne (geometry g.row.SETS g.row.WAYS) g.J.Journal.tells c.args.id b c.loop-made.self c.pay_off.new.self) c.if-not-branch.false c.in_ok-pay_off.ensures.ok)

pub returns-in_err-pay_off-clause-err : goal.returns-in_err-pay_off-clause-err
returns-in_err-pay_off-clause-err g c =
    always_err _ c.from_residual-in_err-pay_off.result (inr (c.loop-made.made, c.loop-made.self, omega (arith, c.loop-made-test.true), c.loop-made.invariant, c.in_err-pay_off.ensures.err))
