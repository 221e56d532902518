-- A search that goes on: what was met stays met.
use Rattle.std.proofs.Common.{◌≡◌, ◌≢◌, ◌<◌, ◌≤◌, ◌+◌, ◌⊎◌, inl, inr, ℕ, zero, suc, arith, Bool, true, false, cond, Option, Some, None, List, [], ◌∷◌, ◌++◌, length, refl, sym, ap, subst, ◌∙◌}
use Rattle.std.specs.Prelude.{slice_get}
use Rattle.std.proofs.lemmas.Option.{slice_get_within}
use Rattle.words.specs.declared.entry.Entry.{Entry}
use Rattle.flat.specs.State.{Setting, Flat}
use Rattle.isolation.specs.Moves.{Place, LeadsInOrder}
use Rattle.isolation.specs.Walks.{WalksInOrder}
use Rattle.outcomes.specs.declared.pool.State.{State}
use Rattle.outcomes.specs.declared.pool.Pool.{Pool}
use Rattle.outcomes.specs.declared.breadth_first.Origin.{Origin}
use Rattle.outcomes.specs.declared.breadth_first.Outcomes.{Outcomes}
use Rattle.outcomes.specs.Pools.{flat_in, IsWithin, Grows}
use Rattle.outcomes.specs.Searches.{setting_at, flat_at, place_at, shown_by, Stands, IsMet, IsExpanded, Came, IsSearch, Extends}
use Rattle.outcomes.proofs.Pooled.{state_still, reserved_still, within_still, grows_on}

-- one place holds one thing
pub one_there : {A : Type 0} (xs : List A) (k : ℕ) (x y : A) → slice_get xs k ≡ Some x → slice_get xs k ≡ Some y → x ≡ y
one_there xs k x y a b = let e : Some x ≡ Some y = sym a ∙ b in cc

pub grows_none : (p : Pool) → Grows p p
grows_none p = record { harts = λ n h e. e; memories = λ n m e. e; reservations = λ n r e. e }

pub extends_none : (o : Outcomes) → Extends o o
extends_none o = record { setting = refl; image = refl; pool = grows_none o.pool; states = λ k x e. e }

pub extends_on : (a b c : Outcomes) → Extends a b → Extends b c → Extends a c
extends_on a b c d e = record {
  setting = e.setting ∙ d.setting;
  image = e.image ∙ d.image;
  pool = grows_on a.pool b.pool c.pool d.pool e.pool;
  states = λ k x s. e.states k x (d.states k x s);
}

-- a state whose values the pool had is the same flat state
pub flat_within : (old new : Outcomes) (x : State) → Extends old new → IsWithin old.count old.pool x → flat_at new x ≡ flat_at old x
flat_within old new x e w =
    (λ k. flat_in (e.setting k) (e.image k) new.pool x)
    ∙ state_still (setting_at old) old.image.items old.pool new.pool x w e.pool

pub flat_still : (old new : Outcomes) (k : ℕ) (x : State) → IsSearch old → Extends old new → Stands old k x → flat_at new x ≡ flat_at old x
flat_still old new k x s e at = flat_within old new x e (s.within k x at)

-- and has the same reservations
pub place_within : (old new : Outcomes) (x : State) → Extends old new → IsWithin old.count old.pool x → place_at new x ≡ place_at old x
place_within old new x e w =
    let F = flat_within old new x e w in
    let R : (i : ℕ) → (place_at new x).reserved i ≡ (place_at old x).reserved i = λ i. reserved_still old.count old.pool new.pool x w e.pool i in
    λ k. record { flat = F k; reserved = λ i. R i k }

pub place_still : (old new : Outcomes) (k : ℕ) (x : State) → IsSearch old → Extends old new → Stands old k x → place_at new x ≡ place_at old x
place_still old new k x s e at = place_within old new x e (s.within k x at)

pub met_still : (old new : Outcomes) (q : Place) → IsSearch old → Extends old new → IsMet old q → IsMet new q
met_still old new q s e m = record {
  place = m.place;
  state = m.state;
  stands = e.states m.place m.state m.stands;
  is = place_still old new m.place m.state s e m.stands ∙ m.is;
}

-- a place stands in both, and so does what stands there
pub as_before : (old new : Outcomes) (k : ℕ) (x : State) → Extends old new → k < length old.states.keys → Stands new k x → Stands old k x
as_before old new k x e lt at =
    let there = found old.states.keys k lt in
    let same : there.0 ≡ x = one_there new.states.keys k there.0 x (e.states k there.0 there.1) at in
    subst (λ y. Stands old k y) same there.1
  where
    found : {A : Type 0} (xs : List A) (n : ℕ) → n < length xs → (x : A) × (slice_get xs n ≡ Some x)
    found [] n lt = absurd (omega arith)
    found (x ∷ xs) zero lt = (x, refl)
    found (x ∷ xs) (suc n) lt = found xs n (omega arith)

pub expanded_still : (old new : Outcomes) (k : ℕ) → IsSearch old → Extends old new → k < length old.states.keys → IsExpanded old k → IsExpanded new k
expanded_still old new k s e lt all x at es q m =
    let before = as_before old new k x e lt at in
    met_still old new q s e (all x before es q (subst (λ p. LeadsInOrder p es q) (place_still old new k x s e before) m))

-- a move between states that stood is one still
pub moves_still : (old new : Outcomes) (x y : State) (es : List Entry) → Extends old new → IsWithin old.count old.pool x → IsWithin old.count old.pool y
    → LeadsInOrder (place_at old x) es (place_at old y) → LeadsInOrder (place_at new x) es (place_at new y)
moves_still old new x y es e w v m =
    subst (λ p. LeadsInOrder p es (place_at new y)) (sym (place_within old new x e w)) (subst (λ q. LeadsInOrder (place_at old x) es q) (sym (place_within old new y e v)) m)

-- a pool that grows
module _ (o : Outcomes) (p : Pool) (s : IsSearch o) (g : Grows o.pool p) where
  abbrev pub grown : Outcomes
  grown = record o { pool = p }

  pub grown_extends : Extends o grown
  grown_extends = record { setting = refl; image = refl; pool = g; states = λ k x e. e }

  pub grown_search : IsSearch grown
  grown_search = record {
    few = s.few;
    some = s.some;
    within = λ k x at. within_still o.count o.pool p x (s.within k x at) g;
    origins = s.origins;
    came = λ k a at.
        let c = s.came k a at in record {
          earlier = c.earlier;
          moves = λ x y here there. moves_still o grown x y (shown_by a.shown) grown_extends (s.within a.from x here) (s.within (k + 1) y there) (c.moves x y here there);
        };
  }

-- one more item
pub get_more : {A : Type 0} (xs : List A) (y : A) (k : ℕ) (x : A) → slice_get (xs ++ y ∷ []) k ≡ Some x → (slice_get xs k ≡ Some x) ⊎ ((k ≡ length xs) × (x ≡ y))
get_more [] y zero x e = inr (refl, cc)
get_more [] y (suc k) x e = cc
get_more (z ∷ xs) y zero x e = inl e
get_more (z ∷ xs) y (suc k) x e = elim (get_more xs y k x e) [ inl a ↦ inl a | inr b ↦ inr (ap suc b.0, b.1) ]

pub get_last : {A : Type 0} (xs : List A) (y : A) → slice_get (xs ++ y ∷ []) (length xs) ≡ Some y
get_last [] y = refl
get_last (x ∷ xs) y = get_last xs y

pub get_left : {A : Type 0} (xs ys : List A) (k : ℕ) (x : A) → slice_get xs k ≡ Some x → slice_get (xs ++ ys) k ≡ Some x
get_left [] ys k x e = cc
get_left (z ∷ xs) ys zero x e = e
get_left (z ∷ xs) ys (suc k) x e = get_left xs ys k x e

pub length_more : {A : Type 0} (xs : List A) (y : A) → length (xs ++ y ∷ []) ≡ length xs + 1
length_more [] y = refl
length_more (x ∷ xs) y = ap suc (length_more xs y) ∙ sym (add_suc (length xs))
  where
    add_suc : (n : ℕ) → suc n + 1 ≡ suc (n + 1)
    add_suc n = omega arith
