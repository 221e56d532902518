-- A search with one state more.
use Rattle.std.proofs.Common.{◌≡◌, ◌≢◌, ◌<◌, ◌≤◌, ◌+◌, ◌⊎◌, inl, inr, ℕ, zero, suc, arith, Bool, true, false, true≢false, ◌||◌, Some, List, [], ◌∷◌, ◌++◌, length, refl, sym, ap, subst, ◌∙◌}
use Rattle.std.specs.Prelude.{slice_get, if◌then◌else◌}
use Rattle.std.specs.List.{list_any, Contains}
use Rattle.std.proofs.lemmas.Option.{slice_get_within, slice_get-get_or}
use Rattle.indexmap.specs.IndexSet.{insert_key}
use Rattle.indexmap.proofs.CallerLemmas.{Contains-list_any}
use Rattle.words.specs.declared.entry.Entry.{Entry}
use Rattle.isolation.specs.Moves.{LeadsInOrder}
use Rattle.outcomes.specs.declared.pool.State.{State}
use Rattle.outcomes.specs.declared.breadth_first.Origin.{Origin}
use Rattle.outcomes.specs.declared.breadth_first.Outcomes.{Outcomes}
use Rattle.outcomes.specs.Pools.{IsWithin, Grows}
use Rattle.outcomes.specs.Searches.{place_at, shown_by, Stands, IsMet, Came, IsSearch, Extends, IsBeyond}
use Rattle.outcomes.proofs.Same.{state_eq, decides_state, same_state}
use Rattle.outcomes.proofs.Pooled.{stands}
use Rattle.outcomes.proofs.Searched.{grows_none, get_more, get_last, get_left, length_more}

-- what a set contains stands at a place
pub place_of : (ks : List State) (x : State) → list_any (state_eq x) ks ≡ true → (k : ℕ) × (slice_get ks k ≡ Some x)
place_of ks x e =
    let c = Contains-list_any state_eq same_state ks x e in
    (c.0, slice_get-get_or ks c.0 x c.1 ∙ ap Some c.2)

-- and what it doesn't, nowhere
neither : (a b : Bool) → (a || b) ≡ false → (a ≡ false) × (b ≡ false)
neither true b e = absurd (true≢false e)
neither false b e = (refl, e)

pub nowhere : (ks : List State) (x : State) → list_any (state_eq x) ks ≡ false → (k : ℕ) → slice_get ks k ≡ Some x → ⊥
nowhere [] x e k at = cc
nowhere (y ∷ ks) x e zero at =
    let same : x ≡ y = cc in
    let found : state_eq x y ≡ true = (decides_state x y).1 same in
    true≢false (sym found ∙ (neither (state_eq x y) (list_any (state_eq x) ks) e).0)
nowhere (y ∷ ks) x e (suc k) at = nowhere ks x (neither (state_eq x y) (list_any (state_eq x) ks) e).1 k at

-- a new state goes last
pub goes_last : (ks new : List State) (x : State) → new ≡ insert_key state_eq ks x → list_any (state_eq x) ks ≡ false → new ≡ ks ++ x ∷ []
goes_last ks new x is e = is ∙ ap (λ b. if b then ks else (ks ++ x ∷ [])) e

-- one that was met already
pub met_there : (o : Outcomes) (x : State) → list_any (state_eq x) o.states.keys ≡ true → IsMet o (place_at o x)
met_there o x e = let p = place_of o.states.keys x e in record { place = p.0; state = x; stands = p.1; is = refl }

module _ (o : Outcomes) (next : State) (origin : Origin) (s : IsSearch o) (w : IsWithin o.count o.pool next) (earlier : origin.from < length o.states.keys)
    (moves : (x : State) → Stands o origin.from x → LeadsInOrder (place_at o x) (shown_by origin.shown) (place_at o next)) where
  -- one state more than the limit
  pub beyond_limit : (limit : ℕ) → limit ≤ length o.states.keys → list_any (state_eq next) o.states.keys ≡ false → IsBeyond o limit
  beyond_limit limit full e =
      let x = stands o.states.keys origin.from earlier in record {
        full = full;
        from = origin.from;
        before = x.0;
        stands = x.1;
        entries = shown_by origin.shown;
        state = next;
        within = w;
        moves = moves x.0 x.1;
        new = nowhere o.states.keys next e;
      }

  module _ (n : Outcomes) (program : n.program ≡ o.program) (image : n.image ≡ o.image) (count : n.count ≡ o.count) (pool : n.pool ≡ o.pool)
      (states : n.states.keys ≡ o.states.keys ++ next ∷ []) (origins : n.origins.items ≡ o.origins.items ++ origin ∷ []) where
    same_place : (x : State) → place_at n x ≡ place_at o x
    same_place x = λ k. place_at (record o { program = program k; image = image k; count = count k; pool = pool k }) x

    pub added_extends : Extends o n
    added_extends = record {
      setting = λ k. record { segments = (program k).segments; size = length (image k).items; count = count k };
      image = ap (λ v. v.items) image;
      pool = subst (λ p. Grows o.pool p) (sym pool) (grows_none o.pool);
      states = λ k x at. subst (λ l. slice_get l k ≡ Some x) (sym states) (get_left o.states.keys (next ∷ []) k x at);
    }

    -- what stands in it stood there, or is the new one, behind all others
    which : (k : ℕ) (x : State) → Stands n k x → Stands o k x ⊎ ((k ≡ length o.states.keys) × (x ≡ next))
    which k x at = get_more o.states.keys next k x (subst (λ l. slice_get l k ≡ Some x) states at)

    old_one : (k : ℕ) (x : State) → k < length o.states.keys → Stands n k x → Stands o k x
    old_one k x lt at = elim (which k x at) [ inl a ↦ a | inr b ↦ let e = b.0 in absurd (omega arith) ]

    as_new : (x y : State) (es : List Entry) → LeadsInOrder (place_at o x) es (place_at o y) → LeadsInOrder (place_at n x) es (place_at n y)
    as_new x y es m = subst (λ f. LeadsInOrder f es (place_at n y)) (sym (same_place x)) (subst (λ g. LeadsInOrder (place_at o x) es g) (sym (same_place y)) m)

    still_came : (k : ℕ) (g : Origin) → slice_get o.origins.items k ≡ Some g → Came n k g
    still_came k g at =
        let c = s.came k g at in
        let lt = slice_get_within o.origins.items k g at in
        let len = s.origins in
        let e = c.earlier in
        let from : g.from < length o.states.keys = omega arith in
        let to : k + 1 < length o.states.keys = omega arith in record {
          earlier = c.earlier;
          moves = λ x y here there. as_new x y (shown_by g.shown) (c.moves x y (old_one g.from x from here) (old_one (k + 1) y to there));
        }

    new_came : (k : ℕ) (g : Origin) → k ≡ length o.origins.items → g ≡ origin → Came n k g
    new_came k g at same =
        let len = s.origins in
        let here : Came n k origin = record {
          earlier = omega arith;
          moves = λ x y here there. elim (which (k + 1) y there) [
            | inl a ↦ let lt = slice_get_within o.states.keys (k + 1) y a in absurd (omega arith)
            | inr b ↦
                let m = moves x (old_one origin.from x earlier here) in
                as_new x y (shown_by origin.shown) (subst (λ z. LeadsInOrder (place_at o x) (shown_by origin.shown) (place_at o z)) (sym b.1) m)
          ];
        } in
        subst (λ g. Came n k g) (sym same) here

    pub added_search : IsSearch n
    added_search =
        let len : length n.states.keys ≡ length o.states.keys + 1 = ap length states ∙ length_more o.states.keys next in
        let more : length n.origins.items ≡ length o.origins.items + 1 = ap length origins ∙ length_more o.origins.items origin in
        let before = s.origins in
        let few = s.few in record {
          few = subst (λ c. c ≤ 8) (sym count) s.few;
          some = omega arith;
          within = λ k x at. subst (λ c. IsWithin c n.pool x) (sym count) (subst (λ p. IsWithin o.count p x) (sym pool) (elim (which k x at) [ inl a ↦ s.within k x a | inr b ↦ subst (λ z. IsWithin o.count o.pool z) (sym b.1) w ]));
          origins = omega arith;
          came = λ k g at. elim (get_more o.origins.items origin k g (subst (λ l. slice_get l k ≡ Some g) origins at)) [ inl a ↦ still_came k g a | inr b ↦ new_came k g b.0 b.1 ];
        }

    pub added_met : IsMet n (place_at o next)
    added_met = record {
      place = length o.states.keys;
      state = next;
      stands = subst (λ l. slice_get l (length o.states.keys) ≡ Some next) (sym states) (get_last o.states.keys next);
      is = same_place next;
    }
