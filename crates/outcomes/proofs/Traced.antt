-- The walk to a state that was met, from one origin to the next.
use Rattle.std.proofs.Common.{◌≡◌, ◌<◌, ◌≤◌, ◌+◌, ◌-◌, ◌⊎◌, inl, inr, ℕ, zero, suc, arith, List, [], ◌∷◌, ◌++◌, Some, length, reverse, refl, sym, ap, subst, ◌∙◌}
use Rattle.std.specs.Prelude.{slice_get}
use Rattle.std.proofs.lemmas.List.{reverse-append, reverse-reverse}
use Rattle.words.specs.declared.entry.Entry.{Entry}
use Rattle.isolation.specs.Moves.{LeadsInOrder}
use Rattle.isolation.specs.Walks.{WalksInOrder, entries_of}
use Rattle.outcomes.specs.declared.pool.State.{State}
use Rattle.outcomes.specs.declared.breadth_first.Origin.{Origin}
use Rattle.outcomes.specs.declared.breadth_first.Outcomes.{Outcomes}
use Rattle.outcomes.specs.Searches.{place_at, shown_by, Stands, Came, IsSearch}
use Rattle.outcomes.proofs.Pooled.{stands}
use Rattle.outcomes.proofs.Searched.{one_there}
use Rattle.outcomes.proofs.Expanded.{order_more}

-- each state that was met is reached from the first
pub reached : (o : Outcomes) → IsSearch o → (n k : ℕ) → k ≤ n → (x y : State) → Stands o 0 x → Stands o k y → (ess : List (List Entry)) × WalksInOrder (place_at o x) ess (place_at o y)
reached o s n zero le x y start at = ([], ap (place_at o) (one_there o.states.keys 0 y x at start))
reached o s zero (suc k) le x y start at = absurd (omega arith)
reached o s (suc n) (suc k) le x y start at =
    let lt = within o.states.keys k y at in
    let len = s.origins in
    let g = stands o.origins.items k (omega arith) in
    let c = s.came k g.0 g.1 in
    let early = c.earlier in
    let b = stands o.states.keys g.0.from (omega arith) in
    let w = reached o s n g.0.from (omega arith) x b.0 start b.1 in
    (w.0 ++ shown_by g.0.shown ∷ [], order_more (place_at o x) (place_at o b.0) (place_at o y) w.0 (shown_by g.0.shown) w.1 (c.moves b.0 y b.1 (next k at)))
  where
    within : {A : Type 0} (xs : List A) (k : ℕ) (y : A) → slice_get xs (suc k) ≡ Some y → k + 1 < length xs
    within [] k y e = cc
    within (x ∷ []) k y e = cc
    within (x ∷ z ∷ xs) zero y e = omega arith
    within (x ∷ z ∷ xs) (suc k) y e = let lt = within (z ∷ xs) k y e in omega arith

    next : (k : ℕ) → Stands o (suc k) y → Stands o (k + 1) y
    next k e = let p : suc k ≡ k + 1 = omega arith in subst (λ n. Stands o n y) p e

-- what is still to trace leads from a place to the one asked for, and its entries were pushed, the last first
pub record IsTraced (o : Outcomes) (entries : List Entry) (at place : ℕ) : Type 0 where
  pub inside : at < length o.states.keys
  pub walks : (x y : State) → Stands o at x → Stands o place y → (ess : List (List Entry)) × (reverse entries ≡ entries_of ess) × WalksInOrder (place_at o x) ess (place_at o y)

-- one origin further back
pub traced_more : (o : Outcomes) (s : IsSearch o) (entries new : List Entry) (at place : ℕ) (g : Origin) → 0 < at → slice_get o.origins.items (at - 1) ≡ Some g
    → new ≡ entries ++ reverse (shown_by g.shown) → IsTraced o entries at place → IsTraced o new g.from place
traced_more o s entries new at place g some origin is t =
    let c = s.came (at - 1) g origin in
    let early = c.earlier in
    let inside = t.inside in
    let b = stands o.states.keys at inside in
    let back : at - 1 + 1 ≡ at = omega arith in
    let round : reverse new ≡ shown_by g.shown ++ reverse entries = ap reverse is ∙ reverse-append entries (reverse (shown_by g.shown)) ∙ ap (λ l. l ++ reverse entries) (reverse-reverse (shown_by g.shown)) in record {
      inside = omega arith;
      walks = λ x y here there.
          let w = t.walks b.0 y b.1 there in (
            shown_by g.shown ∷ w.0,
            round ∙ ap (λ l. shown_by g.shown ++ l) w.1,
            (place_at o b.0, c.moves x b.0 here (subst (λ n. Stands o n b.0) (sym back) b.1), w.2),
          );
    }
