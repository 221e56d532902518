use Rattle.std.proofs.Common.{◌≡◌, ◌<◌, ap, arith, Ok}
use Rattle.flat.specs.State.{Setting}
use Rattle.render.specs.Reports.{hart_text, harts_text}
use Rattle.texts.proofs.Putting.{puts-nothing, puts-same, puts-cut_first, puts-one_first}
use Rattle.render.proofs.reporting.put_harts.Goals as goal

pub loop-number-init : goal.loop-number-init
loop-number-init g c = λ f belongs. puts-nothing _

pub returns-in_err-put_hart : goal.returns-in_err-put_hart
returns-in_err-put_hart g c = λ f belongs.
    let count = ap (λ (s : Setting). s.count) (g.met.M.Engine.same_setting f c.args.machine.now belongs) in
    let inside : c.loop-number.number < f.setting.count = omega (arith, c.harts-number-end.ensures.count) in
    puts-cut_first (hart_text f) inside (c.loop-number.invariant f belongs) c.in_err-put_hart.was (puts-same (ap (hart_text f) c.new.ensures) (c.put_hart.ensures f belongs)) c.from_residual.ensures.0

pub loop-number-preserved : goal.loop-number-preserved
loop-number-preserved g c = λ f belongs. puts-one_first (hart_text f) (c.loop-number.invariant f belongs) (puts-same {r = Ok tt} (ap (hart_text f) c.new.ensures) (c.in_ok-put_hart.ensures f belongs))

pub returns : goal.returns
returns g c = λ f belongs.
    let count = ap (λ (s : Setting). s.count) (g.met.M.Engine.same_setting f c.args.machine.now belongs) in
    let end : c.loop-number.number ≡ f.setting.count = omega (arith, c.harts-number-end.ensures.count) in
    puts-same (ap (harts_text f) end) (c.loop-number.invariant f belongs)
