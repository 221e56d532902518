-- A turn's end at a desk that has another one within is one at that other one.
use Rattle.std.proofs.Common.{◌≡◌, Bool, true, false, Result, Ok, Err, ap, subst, sym}
use Rattle.std.specs.declared.alloc.AllocError.{AllocError}
use Rattle.board.specs.declared.refusal.Refusal.{Refusal}
use Rattle.board.specs.declared.refusal.Refusal.TheVariants.{Stale, NoMemory}
use Rattle.board.specs.Ends.{LendsUnlessLast, GoesOn, Finishes, IsTurnsEnd}

module _ {B D L : Type 0} (inner : B → D) (put : B → D → B) (has : (b : B) (d : D) → inner (put b d) ≡ d)
    (Settles : D → L → Result Unit Refusal → D → Type 0) (Visits : D → Result Bool AllocError → D → Type 0) (Lends : D → L → Bool → L → Type 0) where
  abbrev SettlesWithin : B → L → Result Unit Refusal → B → Type 0
  SettlesWithin b l r c = Settles (inner b) l r (inner c)

  abbrev VisitsWithin : B → Result Bool AllocError → B → Type 0
  VisitsWithin b r c = Visits (inner b) r (inner c)

  abbrev LendsWithin : B → L → Bool → L → Type 0
  LendsWithin b l runs m = Lends (inner b) l runs m

  lends_within : (is_last : Bool) (b : B) (d : D) (l : L) (runs : Bool) (m : L) →
      LendsUnlessLast Settles Visits Lends is_last d l runs m → LendsUnlessLast SettlesWithin VisitsWithin LendsWithin is_last (put b d) l runs m
  lends_within true b d l runs m it = it
  lends_within false b d l runs m it = subst (λ (x : D). Lends x l runs m) (sym (has b d)) it

  goes_on_within : (is_last : Bool) (b : B) (d : D) (l : L) (answer r : Result Bool AllocError) (m : L) →
      GoesOn Settles Visits Lends is_last d l answer r m → GoesOn SettlesWithin VisitsWithin LendsWithin is_last (put b d) l answer r m
  goes_on_within is_last b d l (Ok true) r m it = (it.0, lends_within is_last b d l it.0 m it.1, it.2)
  goes_on_within is_last b d l (Ok false) r m it = it
  goes_on_within is_last b d l (Err e) r m it = it

  visits_within : (b : B) (d : D) (r : Result Bool AllocError) (e : D) → Visits d r e → VisitsWithin (put b d) r (put b e)
  visits_within b d r e it = subst (λ (x : D). Visits x r (inner (put b e))) (sym (has b d)) (subst (λ (x : D). Visits d r x) (sym (has b e)) it)

  finishes_within : (is_last : Bool) (b : B) (d : D) (l : L) (answer : Result Unit Refusal) (r : Result Bool AllocError) (e : D) (m : L) →
      Finishes Settles Visits Lends is_last d l answer r e m → Finishes SettlesWithin VisitsWithin LendsWithin is_last (put b d) l answer r (put b e) m
  finishes_within is_last b d l (Err NoMemory) r e m it = (it.0, ap (put b) it.1, it.2)
  finishes_within is_last b d l (Err Stale) r e m it = (it.0, visits_within b d it.0 e it.1, goes_on_within is_last b e l it.0 r m it.2)
  finishes_within is_last b d l (Ok u) r e m it = (it.0, visits_within b d it.0 e it.1, goes_on_within is_last b e l it.0 r m it.2)

  -- all else that the outer desk has may change
  pub ends_within : (is_last : Bool) (a b : B) (d : D) (l : L) (r : Result Bool AllocError) (e : D) (m : L) →
      d ≡ inner a → IsTurnsEnd Settles Visits Lends is_last d l r e m → IsTurnsEnd SettlesWithin VisitsWithin LendsWithin is_last a l r (put b e) m
  ends_within is_last a b d l r e m same it = record {
    answer = it.answer;
    middle = put b it.middle;
    settles = subst (λ (x : D). Settles (inner a) l it.answer x) (sym (has b it.middle)) (subst (λ (x : D). Settles x l it.answer it.middle) same it.settles);
    finishes = finishes_within is_last b it.middle l it.answer r e m it.finishes;
  }
