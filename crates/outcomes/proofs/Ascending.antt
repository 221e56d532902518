-- Lists that ascend and have the same items are equal.
use Rattle.std.proofs.Common.{◌≡◌, inl, inr, List, [], ◌∷◌, map, refl, sym, subst}
use Rattle.std.specs.declared.cmp.Ordering.{Ordering}
use Rattle.std.specs.declared.cmp.Ordering.TheVariants.{Less}
use Rattle.std.specs.Cmp.{IsTotalOrder}
use Rattle.std.specs.List.{Contains, AllByRecursion}
use Rattle.std.specs.List.Sorted.{IsStrictlySortedBy}
use Rattle.std.proofs.lemmas.Cmp.{tied_itself}
use Rattle.std.proofs.lemmas.List.Elements.{All-from_recursion, All-contains}
use Rattle.std.proofs.lemmas.Map.Keys.{sorted_head, sorted_tail}
use Rattle.outcomes.proofs.Members.{none_in, at_head, in_tail, head_or_tail}

module _ {K : Type 0} (c : K → K → Ordering) (order : IsTotalOrder c) where
  not_below_itself : (x : K) → c x x ≡ Less → ⊥
  not_below_itself x less = let e = tied_itself order x in cc

  not_both : (x y : K) → c x y ≡ Less → c y x ≡ Less → ⊥
  not_both x y a b = not_below_itself x (order.trans x y x a b)

  -- the first of a list that ascends lies below each of the others
  below : (x y : K) (xs : List K) → IsStrictlySortedBy c (x ∷ xs) → Contains xs y → c x y ≡ Less
  below x y xs up there = All-contains (λ z. c x z ≡ Less) xs y (All-from_recursion (λ z. c x z ≡ Less) xs (sorted_head c x xs up)) there

  heads : (x y : K) (xs ys : List K) → IsStrictlySortedBy c (x ∷ xs) → IsStrictlySortedBy c (y ∷ ys) → Contains (y ∷ ys) x → Contains (x ∷ xs) y → x ≡ y
  heads x y xs ys up vp a b = elim (head_or_tail y ys x a) [
    | inl same ↦ sym same
    | inr late ↦ elim (head_or_tail x xs y b) [
      | inl same ↦ same
      | inr later ↦ absurd (not_both y x (below y x ys vp late) (below x y xs up later))
    ]
  ]

  -- what else the one has is among the others of the other
  among_others : (x : K) (xs ys : List K) → IsStrictlySortedBy c (x ∷ xs) → ((z : K) → Contains (x ∷ xs) z → Contains (x ∷ ys) z) → (z : K) → Contains xs z → Contains ys z
  among_others x xs ys up forth z there = elim (head_or_tail x ys z (forth z (in_tail x xs z there))) [
    | inl same ↦ absurd (not_below_itself x (subst (λ (k : K). c x k ≡ Less) (sym same) (below x z xs up there)))
    | inr late ↦ late
  ]

  pub one_list : (xs ys : List K) → IsStrictlySortedBy c xs → IsStrictlySortedBy c ys → ((z : K) → Contains xs z → Contains ys z) → ((z : K) → Contains ys z → Contains xs z) → xs ≡ ys
  one_list [] [] up vp forth back = refl
  one_list [] (y ∷ ys) up vp forth back = absurd (none_in y (back y (at_head y ys)))
  one_list (x ∷ xs) [] up vp forth back = absurd (none_in x (forth x (at_head x xs)))
  one_list (x ∷ xs) (y ∷ ys) up vp forth back =
      let same = heads x y xs ys up vp (forth x (at_head x xs)) (back y (at_head y ys)) in
      let up_too : IsStrictlySortedBy c (x ∷ ys) = subst (λ (k : K). IsStrictlySortedBy c (k ∷ ys)) (sym same) vp in
      let rest = one_list xs ys (sorted_tail c x xs up) (sorted_tail c y ys vp)
      (among_others x xs ys up (λ z a. subst (λ (k : K). Contains (k ∷ ys) z) (sym same) (forth z a)))
      (among_others x ys xs up_too (λ z a. back z (subst (λ (k : K). Contains (k ∷ ys) z) same a))) in
      λ j. same j ∷ rest j

-- a list that is made item by item of another, in the order in which that one ascends
module _ {V K : Type 0} (h : V → K) (c : K → K → Ordering) where
  each_below : (x : V) (xs : List V) → AllByRecursion (λ y. c (h x) (h y) ≡ Less) xs → AllByRecursion (λ y. c (h x) y ≡ Less) (map h xs)
  each_below x [] all = tt
  each_below x (y ∷ xs) all = (all.0, each_below x xs all.1)

  pub ascends_so : (xs : List V) → IsStrictlySortedBy (λ x y. c (h x) (h y)) xs → IsStrictlySortedBy c (map h xs)
  unfolding IsStrictlySortedBy
  ascends_so [] up = tt
  ascends_so (x ∷ xs) up = (each_below x xs up.0, ascends_so xs up.1)
