-- What a search from a program's first state has found.
use Rattle.std.proofs.Common.{◌≡◌, ◌<◌, ◌≤◌, ◌+◌, ◌⊎◌, inl, inr, ℕ, zero, suc, arith, Bool, true, false, List, [], ◌∷◌, Some, length, refl, sym, ap, subst, ◌∙◌}
use Rattle.std.specs.Prelude.{slice_get}
use Rattle.std.proofs.lemmas.Option.{slice_get_within}
use Rattle.words.specs.declared.entry.Entry.{Entry}
use Rattle.isolation.specs.Moves.{Place}
use Rattle.isolation.specs.Walks.{WalksInOrder}
use Rattle.outcomes.specs.declared.pool.State.{State}
use Rattle.outcomes.specs.declared.breadth_first.Outcomes.{Outcomes}
use Rattle.outcomes.specs.Searches.{place_at, Stands, IsMet, IsExpanded, IsSearch, Extends, IsBeyond, Finds}
use Rattle.indexmap.specs.IndexSet.{insert_key}
use Rattle.outcomes.specs.Pools.{IsWithin}
use Rattle.outcomes.proofs.Same.{state_eq}
use Rattle.outcomes.proofs.Searched.{one_there, place_still}
use Rattle.outcomes.proofs.Expanded.{all_met}
use Rattle.outcomes.proofs.Traced.{reached}

-- a set of one
pub only_one : (old new : List State) (x : State) → length old ≡ 0 → new ≡ insert_key state_eq old x → new ≡ x ∷ []
only_one [] new x none is = is
only_one (y ∷ ys) new x none is = absurd (omega arith)

-- a search begins with one state
pub begins : (o : Outcomes) (x : State) → o.states.keys ≡ x ∷ [] → IsWithin o.count o.pool x → o.origins.items ≡ [] → o.count ≤ 8 → IsSearch o
begins o x only w none few =
    let one : length o.states.keys ≡ 1 = ap length only in
    let zero_ : length o.origins.items ≡ 0 = ap length none in record {
      few = few;
      some = omega arith;
      within = λ k y at.
          let e : slice_get (x ∷ []) k ≡ Some y = subst (λ l. slice_get l k ≡ Some y) only at in
          let lt = slice_get_within (x ∷ []) k y e in
          let k_is : k ≡ 0 = omega arith in
          subst (λ z. IsWithin o.count o.pool z) (one_there (x ∷ []) 0 x y refl (subst (λ n. slice_get (x ∷ []) n ≡ Some y) k_is e)) w;
      origins = omega arith;
      came = λ k g at. let lt = slice_get_within o.origins.items k g at in absurd (omega arith);
    }

-- whether it says that it met all is not among what is said of a search
retold : (n : Outcomes) (b : Bool) → IsSearch n → IsSearch (record n { is_all = b })
retold n b s = record {
  few = s.few;
  some = s.some;
  within = s.within;
  origins = s.origins;
  came = λ k g at. let c = s.came k g at in record { earlier = c.earlier; moves = c.moves };
}

met_retold : (n : Outcomes) (b : Bool) (p : Place) → IsMet n p → IsMet (record n { is_all = b }) p
met_retold n b p m = record { place = m.place; state = m.state; stands = m.stands; is = m.is }

beyond_retold : (n : Outcomes) (b : Bool) (limit : ℕ) → IsBeyond n limit → IsBeyond (record n { is_all = b }) limit
beyond_retold n b limit m = record {
  full = m.full;
  from = m.from;
  before = m.before;
  stands = m.stands;
  entries = m.entries;
  state = m.state;
  within = m.within;
  moves = m.moves;
  new = m.new;
}

module _ (o n : Outcomes) (b : Bool) (first : Place) (x : State) (limit : ℕ) (begun : IsSearch o) (only : o.states.keys ≡ x ∷ []) (is : place_at o x ≡ first)
    (s : IsSearch n) (e : Extends o n) (expanded : b ≡ true → (k : ℕ) → k < length n.states.keys → IsExpanded n k)
    (more : b ≡ false → (limit < length n.states.keys) ⊎ IsBeyond n limit) (bound : length o.states.keys ≤ limit → length n.states.keys ≤ limit) where
  there : Stands o 0 x
  there = subst (λ l. slice_get l 0 ≡ Some x) (sym only) refl

  still : Stands n 0 x
  still = e.states 0 x there

  first_is : place_at n x ≡ first
  first_is = place_still o n 0 x begun e there ∙ is

  within_limit : 0 < limit → length n.states.keys ≤ limit
  within_limit some = let one : length o.states.keys ≡ 1 = ap length only in bound (omega arith)

  pub finds : Finds first limit (record n { is_all = b })
  finds = record {
    search = retold n b s;
    start = λ y at. ap (place_at n) (one_there n.states.keys 0 y x at still) ∙ first_is;
    sound = λ k y at.
        let w = reached n s k k (omega arith) x y still at in
        (w.0, subst (λ p. WalksInOrder p w.0 (place_at n y)) first_is w.1);
    complete = λ all ess q w.
        met_retold n b q (all_met n (λ k y at. expanded all k (slice_get_within n.states.keys k y at)) first (record { place = 0; state = x; stands = still; is = first_is }) ess q w);
    within = within_limit;
    beyond = λ not_all. elim (more not_all) [ inl over ↦ inl (none over) | inr m ↦ inr (beyond_retold n b limit m) ];
  }
    where
      none : limit < length n.states.keys → limit ≡ 0
      none over = by limit within_limit over
        where
          by : (m : ℕ) → (0 < m → length n.states.keys ≤ m) → m < length n.states.keys → m ≡ 0
          by zero h over = refl
          by (suc m) h over = let le = h (omega arith) in absurd (omega arith)
