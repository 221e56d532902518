use Rattle.std.proofs.Common.{◌≡◌, ℕ, List, ap, subst, sym, ◌∙◌}
use Rattle.std.specs.Prelude.{IfSome, IfNone}
use Rattle.flat.specs.State.{Setting, Flat}
use Rattle.flat.specs.Reservations.{Reservations}
use Rattle.isolation.specs.Moves.{IsReserved, reserved_behind}
use Rattle.outcomes.specs.Reservations.{reserved_of}
use Rattle.outcomes.specs.Standings.{flat_of}
use Rattle.outcomes.specs.Pools.{flat_in, IsWithin}
use Rattle.outcomes.specs.Searches.{flat_at, place_at, shown_by}
use Rattle.outcomes.proofs.breadth_first.Outcomes.reserved_behind.Goals as goal

pub standing-standing-requires : goal.standing-standing-requires
standing-standing-requires c = subst (λ n. IsWithin n c.args.self.now.pool c.args.state.now) (sym (ap (λ (s : Setting). s.count) c.scene.ensures.setting)) c.requires.within

pub returns-clause-some : goal.returns-clause-some
returns-clause-some c =
    let o = c.args.self.now in
    let x = c.args.state.now in
    let shown = shown_by c.args.shown.now in
    let here : Reservations = (place_at o x).reserved in
    let R : reserved_of c.reserved.result ≡ here = λ j i. c.reserved.ensures i j in
    let F : flat_of c.standing-standing.result ≡ flat_at o x = c.standing-standing.ensures.flat ∙ (λ k. flat_in (c.scene.ensures.setting k) (c.scene.ensures.image k) o.pool x) in
    subst (λ (f : Flat). IfSome c.behind.result (λ r. IsReserved here shown × ((k : ℕ) → reserved_of r k ≡ reserved_behind f here shown k))) F
    (subst (λ (b : Reservations). IfSome c.behind.result (λ r. IsReserved b shown × ((k : ℕ) → reserved_of r k ≡ reserved_behind (flat_of c.standing-standing.result) b shown k))) R c.behind.ensures.some)

pub returns-clause-none : goal.returns-clause-none
returns-clause-none c =
    let here : Reservations = (place_at c.args.self.now c.args.state.now).reserved in
    let R : reserved_of c.reserved.result ≡ here = λ j i. c.reserved.ensures i j in
    subst (λ (b : Reservations). IfNone c.behind.result (IsReserved b (shown_by c.args.shown.now) → ⊥)) R c.behind.ensures.none
