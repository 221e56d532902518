use Rattle.std.proofs.Common.{◌≡◌, ◌≤◌, ℕ, length, List, [], ◌∷◌, ◌++◌, refl, sym, ap, subst, ◌∙◌}
use Rattle.flat.specs.State.{Setting}
use Rattle.outcomes.specs.declared.change.Turn.{Turn}
use Rattle.outcomes.specs.Pools.{IsWithin}
use Rattle.outcomes.specs.Searches.{flat_at, place_at}
use Rattle.outcomes.proofs.Searched.{extends_on}
use Rattle.outcomes.proofs.Expanded.{IsMade, last_left, left_more, expanded_now, move_still, made_still}
use Rattle.outcomes.proofs.breadth_first.Outcomes.expand.Goals as goal

pub standing-requires : goal.standing-requires
standing-requires c =
    subst (λ n. IsWithin n c.args.self.now.pool c.index.result.now) (sym (ap (λ (s : Setting). s.count) c.scene.ensures.setting))
    (c.requires.search.within c.args.place c.index.result.now c.index.ensures)

pub visit-requires-clause-moves : goal.visit-requires-clause-moves
visit-requires-clause-moves c =
    let o = c.args.self.now in
    let n = c.loop-turn.self in
    let x = c.index.result.now in
    let inv = c.loop-turn.invariant in
    move_still o n c.args.place x c.in-Some.turn c.requires.search inv.1 c.index.ensures
    (last_left o.image.items (place_at o x) n c.loop-turn.turns.items c.pop.new.self.items c.in-Some.turn c.in-Some.ensures.items inv.2)

pub loop-turn-preserved : goal.loop-turn-preserved
loop-turn-preserved c =
    let o = c.args.self.now in
    let n = c.loop-turn.self in
    let m = c.visit.new.self in
    let x = c.index.result.now in
    let t = c.in-Some.turn in
    let inv = c.loop-turn.invariant in
    let more = c.in_ok-visit.ensures.extends in
    let made : IsMade o.image.items (place_at o x) m t = made_still o n m c.args.place x t c.requires.search inv.1 c.index.ensures (c.in_ok-visit.ensures.met c.if-not-branch.false) in (
      c.in_ok-visit.ensures.search,
      extends_on o n m inv.1 more,
      left_more o.image.items (place_at o x) n m c.loop-turn.turns.items c.pop.new.self.items t c.in-Some.ensures.items inv.0 more made inv.2,
      λ le. c.in_ok-visit.ensures.bound (inv.3 le),
    )

pub returns-clause-expanded : goal.returns-clause-expanded
returns-clause-expanded c _ =
    let o = c.args.self.now in
    let n = c.loop-turn.self in
    let x = c.index.result.now in
    let inv = c.loop-turn.invariant in
    let none : length c.loop-turn.turns.items ≡ 0 = sym c.loop-turn.turns.ok.0 ∙ c.in_default.ensures.cases.0 in
    expanded_now o n c.args.place x c.loop-turn.turns.items none c.requires.search inv.1 c.index.ensures inv.2
