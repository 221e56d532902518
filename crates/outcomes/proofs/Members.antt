-- The items of a list.
use Rattle.std.proofs.Common.{◌≡◌, ◌⊎◌, inl, inr, arith, List, [], ◌∷◌, map, refl, subst}
use Rattle.std.specs.List.{Contains}
use Rattle.std.proofs.lemmas.List.Elements.{Contains-append_right, Contains-append_cases, Contains-push_cases}

module _ {X : Type 0} where
  pub none_in : (x : X) → Contains [] x → ⊥
  none_in x c = omega (arith, c.1)

  pub at_head : (x : X) (xs : List X) → Contains (x ∷ xs) x
  at_head x xs = (0, omega arith, refl)

  pub in_tail : (y : X) (xs : List X) (x : X) → Contains xs x → Contains (y ∷ xs) x
  in_tail y xs x c = Contains-append_right (y ∷ []) xs x c

  -- the first item, or one of the others
  pub head_or_tail : (y : X) (xs : List X) (x : X) → Contains (y ∷ xs) x → (y ≡ x) ⊎ Contains xs x
  head_or_tail y xs x c = elim (Contains-append_cases (y ∷ []) xs x c) [
    | inl a ↦ elim (Contains-push_cases [] y x a) [ inl none ↦ absurd (none_in x none) | inr same ↦ inl same ]
    | inr b ↦ inr b
  ]

-- the items of a list that is made item by item of another
module _ {X Y : Type 0} (h : X → Y) where
  pub mapped : (xs : List X) (x : X) → Contains xs x → Contains (map h xs) (h x)
  mapped [] x c = absurd (none_in x c)
  mapped (y ∷ xs) x c = elim (head_or_tail y xs x c) [
    | inl same ↦ subst (λ (z : X). Contains (h y ∷ map h xs) (h z)) same (at_head (h y) (map h xs))
    | inr later ↦ in_tail (h y) (map h xs) (h x) (mapped xs x later)
  ]

  pub mapped_from : (xs : List X) (z : Y) → Contains (map h xs) z → (x : X) × Contains xs x × (h x ≡ z)
  mapped_from [] z c = absurd (none_in z c)
  mapped_from (y ∷ xs) z c = elim (head_or_tail (h y) (map h xs) z c) [
    | inl same ↦ (y, at_head y xs, same)
    | inr later ↦ let r = mapped_from xs z later in (r.0, in_tail y xs r.0 r.1, r.2)
  ]
