use Rattle.std.proofs.Common.{◌≡◌, ◌≤◌, ◌<◌, ◌+◌, ◌⊎◌, inl, inr, ℕ, arith, length, refl, sym, subst}
use Rattle.outcomes.specs.Searches.{IsExpanded}
use Rattle.outcomes.proofs.Searched.{extends_on, expanded_still}
use Rattle.outcomes.proofs.Together.{below_or_at}
use Rattle.outcomes.proofs.breadth_first.Outcomes.explore.Goals as goal

pub loop-place-preserved : goal.loop-place-preserved
loop-place-preserved g c =
    let o = c.args.self.now in
    let n = c.loop-place.self in
    let m = c.expand.new.self in
    let inv = c.loop-place.invariant in
    let more = c.in_ok-expand.ensures.extends in (
      c.in_ok-expand.ensures.search,
      extends_on o n m inv.1 more,
      λ k lt. elim (below_or_at k c.loop-place.place lt) [
        | inl lower ↦
            let inside : k < length n.states.keys = omega (arith, lower, c.if-place-len.false, c.len.ensures.len) in
            expanded_still n m k inv.0 more inside (inv.2 k lower)
        | inr same ↦ subst (IsExpanded m) (sym same) (c.in_ok-expand.ensures.expanded c.if-not-branch.false)
      ],
      λ le. c.in_ok-expand.ensures.bound (inv.3 le),
    )
