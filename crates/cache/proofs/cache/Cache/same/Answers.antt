use Rattle.std.proofs.Common.{◌≡◌, map, nat_eq, true, sym, ◌∙◌, ap, arith}
use Rattle.std.proofs.lemmas.Bool.Decides.{nat_tests}
use Rattle.cache.specs.Ways.{has_line}
use Rattle.cache.specs.Sets.{Sets}
use Rattle.cache.specs.Occupied.{mask_of}
use Rattle.cache.proofs.Occupancy.{alike_decides}
use Rattle.cache.proofs.cache.Cache.same.Goals as goal

pub returns-then-eq : goal.returns-then-eq
returns-then-eq g c =
    let occupied : c.self.inside.occupied ≡ c.other.inside.occupied = let same : nat_eq c.self.inside.occupied c.other.inside.occupied ≡ true = sym c.eq.ensures ∙ c.if-eq.true in grind (arith, nat_tests, same) in
    let alike = alike_decides g.row.SETS g.row.WAYS c.self.inside.occupied c.self.inside.sets c.other.inside.sets c.self.invariant.0 c.other.invariant.0 c.self.told c.other.told c.self.invariant.1 (occupied ∙ c.other.invariant.1) in
    rw (← c.self.view_is, ← c.other.view_is) (λ t. alike.0 (c.same_sets.ensures.0 t), λ e. c.same_sets.ensures.1 (alike.1 e))

pub returns-else-eq : goal.returns-else-eq
returns-else-eq g c = rw (← c.self.view_is, ← c.other.view_is) (
  λ t. absurd (cc),
  λ e.
      let occupied : c.self.inside.occupied ≡ c.other.inside.occupied = c.self.invariant.1 ∙ ap (λ (sets : Sets). mask_of 64 (map has_line sets)) e ∙ sym c.other.invariant.1 in
      c.eq.ensures ∙ grind (arith, nat_tests, occupied),
)
