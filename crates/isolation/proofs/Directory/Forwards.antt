-- The forwards of a request, by slot: each hart that has to answer has its own, and no other slot changes.
use Rattle.std.proofs.Common.{◌≡◌, ◌<◌, ◌≤◌, ℕ, zero, suc, List, [], ◌∷◌, ◌++◌, Bool, true, false, Option, None, Some, cond, eqb, ltb, refl, ap, ◌∙◌, arith}
use Rattle.std.specs.Prelude.{◌&&◌}
use Rattle.std.proofs.lemmas.Bool.Decides.{nat_tests}
use Rattle.words.specs.declared.message.Kind.{Kind}
use Rattle.words.specs.declared.stamp.Stamp.{Stamp}
use Rattle.protocol.specs.Messages.{Message, Forward}
use Rattle.protocol.specs.Directory.{forwards}
use Rattle.isolation.proofs.Machine.Slots.{Slot, slot, slot_of, at_slot, Mail}
use Rattle.isolation.proofs.Machine.Sends.{Fit, with_all}
use Rattle.isolation.proofs.Directory.Serves.{AreTo}

-- one list of messages after another
with_append : (xs ys : List Message) (f : Mail) → with_all (xs ++ ys) f ≡ with_all ys (with_all xs f)
with_append [] ys f = refl
with_append (m ∷ xs) ys f = with_append xs ys (at_slot (slot_of m) (Some m) f)

fit_append : (xs ys : List Message) (f : Mail) → Fit xs f → Fit ys (with_all xs f) → Fit (xs ++ ys) f
fit_append [] ys f p q = q
fit_append (m ∷ xs) ys f p q = (p.0, fit_append xs ys (at_slot (slot_of m) (Some m) f) p.1 q)

are_append : (n b : ℕ) (xs ys : List Message) → AreTo n b xs → AreTo n b ys → AreTo n b (xs ++ ys)
are_append n b [] ys p q = q
are_append n b (m ∷ xs) ys p q = (p.0, p.1, are_append n b xs ys p.2 q)

module _ (b r : ℕ) (k : Kind) (st : Option Stamp) (expect : ℕ → Bool) where
  -- the last forward, if there is one
  abbrev last : ℕ → Bool → List Message
  last n q = cond q (Forward n b k r st ∷ []) []

  last_seen : (n h : ℕ) (q : Bool) (y : Option Message) (g : Mail) → expect n ≡ q → g (slot 4 b h) ≡ cond (ltb h n && expect h) (Some (Forward h b k r st)) y → with_all (last n q) g (slot 4 b h) ≡ cond (ltb h (suc n) && expect h) (Some (Forward h b k r st)) y
  last_seen n h true y g e i = grind (arith, nat_tests)
  last_seen n h false y g e i = grind (arith, nat_tests)

  -- a hart that has to answer has its forward
  pub forward_seen : (n h : ℕ) (f : Mail) → with_all (forwards n expect b k r st) f (slot 4 b h) ≡ cond (ltb h n && expect h) (Some (Forward h b k r st)) (f (slot 4 b h))
  forward_seen zero h f = grind (arith, nat_tests)
  forward_seen (suc n) h f = ap (λ g. g (slot 4 b h)) (with_append (forwards n expect b k r st) (last n (expect n)) f) ∙ last_seen n h (expect n) (f (slot 4 b h)) (with_all (forwards n expect b k r st) f) refl (forward_seen n h f)

  last_unseen : (n : ℕ) (q : Bool) (a : Slot) (g : Mail) → eqb a.sort 4 ≡ false → with_all (last n q) g a ≡ g a
  last_unseen n true a g u = ap (λ z. cond (z && (eqb a.block b && eqb a.hart n)) (Some (Forward n b k r st)) (g a)) u
  last_unseen n false a g u = refl

  -- and a slot of another sort is as it was
  pub forward_unseen : (n : ℕ) (f : Mail) (a : Slot) → eqb a.sort 4 ≡ false → with_all (forwards n expect b k r st) f a ≡ f a
  forward_unseen zero f a u = refl
  forward_unseen (suc n) f a u = ap (λ g. g a) (with_append (forwards n expect b k r st) (last n (expect n)) f) ∙ last_unseen n (expect n) a (with_all (forwards n expect b k r st) f) u ∙ forward_unseen n f a u

  not_below : (n : ℕ) (y : Bool) (u v : Option Message) → cond (ltb n n && y) u v ≡ v
  not_below n y u v = grind (arith, nat_tests)

  last_fits : (n : ℕ) (q : Bool) (g : Mail) → (q ≡ true → g (slot 4 b n) ≡ None) → Fit (last n q) g
  last_fits n true g z = (z refl, tt)
  last_fits n false g z = tt

  -- they fit where no forward to such a hart is in flight
  pub forwards_fit : (n : ℕ) (f : Mail) → ((h : ℕ) → h < n → expect h ≡ true → f (slot 4 b h) ≡ None) → Fit (forwards n expect b k r st) f
  forwards_fit zero f free = tt
  forwards_fit (suc n) f free =
      fit_append (forwards n expect b k r st) (last n (expect n)) f (forwards_fit n f (λ h l e. free h (omega arith) e))
      (last_fits n (expect n) (with_all (forwards n expect b k r st) f) (λ e. forward_seen n n f ∙ not_below n (expect n) (Some (Forward n b k r st)) (f (slot 4 b n)) ∙ free n (omega arith) e))

  last_are : (n m : ℕ) (q : Bool) → m < n → AreTo n b (last m q)
  last_are n m true l = (refl, l, tt)
  last_are n m false l = tt

  -- and they are messages about the block, to harts
  pub forwards_are : (n m : ℕ) → m ≤ n → AreTo n b (forwards m expect b k r st)
  forwards_are n zero l = tt
  forwards_are n (suc m) l = are_append n b (forwards m expect b k r st) (last m (expect m)) (forwards_are n m (omega arith)) (last_are n m (expect m) (omega arith))
