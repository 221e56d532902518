use Rattle.std.proofs.Common.{◌≡◌, ◌∙◌, inl, refl, ap, arith, subst, sym, ℕ}
use Rattle.flat.specs.State.{Setting}
use Rattle.render.specs.Statuses.{status_for, IsGreatest, IsReported}
use Rattle.render.proofs.Reported.{greatest-none, greatest-more, greater-reported, status_for-reported}
use Rattle.render.proofs.statuses.status.Goals as goal

pub loop-number-init : goal.loop-number-init
loop-number-init g c = record { greatest = λ f belongs. greatest-none f; reported = inl refl }

pub loop-number-preserved : goal.loop-number-preserved
loop-number-preserved g c = rw c.max-greatest.ensures (record {
  greatest = λ f belongs.
      let here : c.status_for.result ≡ status_for (f.hart c.loop-number.number).status =
      c.status_for.ensures ∙ ap status_for (c.status_of.ensures f belongs) ∙ ap (λ (k : ℕ). status_for (f.hart k).status) c.new-id.ensures in
      greatest-more f c.loop-number.number c.status_for.result c.loop-number.greatest here (c.loop-number.invariant.greatest f belongs);
  reported = greater-reported c.status_for.result c.loop-number.greatest
      (subst IsReported (sym c.status_for.ensures) (status_for-reported c.status_of.result)) c.loop-number.invariant.reported;
})

pub returns-clause-greatest : goal.returns-clause-greatest
returns-clause-greatest g c = λ f belongs.
    let count = ap (λ (s : Setting). s.count) (g.met.M.Engine.same_setting f c.args.machine.now belongs) in
    let end : c.loop-number.number ≡ f.setting.count = omega (arith, c.harts-number-end.ensures.count) in
    subst (λ (n : ℕ). IsGreatest f n c.loop-number.greatest) end (c.loop-number.invariant.greatest f belongs)
