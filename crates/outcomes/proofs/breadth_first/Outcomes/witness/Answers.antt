use Rattle.std.proofs.Common.{◌≡◌, ◌<◌, ◌-◌, ℕ, arith, length, [], reverse, refl, sym, ap, subst, ◌∙◌}
use Rattle.std.proofs.lemmas.Option.{slice_get_read}
use Rattle.outcomes.specs.Searches.{Stands}
use Rattle.outcomes.proofs.Traced.{traced_more}
use Rattle.outcomes.proofs.breadth_first.Outcomes.witness.Goals as goal

pub loop-at-preserved : goal.loop-at-preserved
loop-at-preserved c =
    let o = c.args.self.now in
    traced_more o c.requires.search c.loop-at.entries.items c.push_back.new.entries.items c.loop-at.at c.args.place c.index-origin.result.now c.loop-at-test.true
    (slice_get_read o.origins.items (length o.origins.items) (c.loop-at.at - 1) c.index-origin.result.now refl
    (omega (arith, c.loop-at.invariant.inside, c.requires.search.origins, c.loop-at-test.true)) c.index-origin.ensures)
    c.in_ok-push_back.ensures c.loop-at.invariant

pub returns : goal.returns
returns c x y here there =
    let none : c.loop-at.at ≡ 0 = omega (arith, c.loop-at-test.false) in
    let w = c.loop-at.invariant.walks x y (subst (λ n. Stands c.args.self.now n x) (sym none) here) there in
    (w.0, c.turn_round.ensures ∙ w.1, w.2)
