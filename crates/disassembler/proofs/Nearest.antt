-- The nearest symbol, found in symbols in order.
use Rattle.std.proofs.Common.{◌≡◌, ℕ, ◌+◌, ◌-◌, ◌<◌, ◌≤◌, ◌≢◌, ◌⊎◌, ◌==◌, ◌&&◌, nat_le, nat_lt, Bool, true, false, cond, List, [], ◌∷◌, ◌++◌, length, take, drop, get_or, Option, Some, None, IfSome, refl, sym, ap, subst, ◌∙◌, arith, inl, inr, take-append-drop, drop-cons, get_or-take, get_or-drop, length-take, length-drop}
use Rattle.std.specs.List.{All, AllWithin, filter, last_or}
use Rattle.std.specs.List.Sorted.{IsPermutation, IsNonDecreasingBy, IsPartitionPoint}
use Rattle.std.proofs.lemmas.Bool.{leb-true, leb-false, le-leb, lt-leb, ltb-true, ltb-false, le-ltb, lt-ltb, eqb-true, eqb-false, eq-eqb, ne_eqb, and_parts, and_cases, and_from}
use Rattle.std.proofs.lemmas.List.Elements.{All-cons, All-head, All-tail, All-weaker}
use Rattle.std.proofs.lemmas.List.Sorted.{All-permutation, IsPermutation-sym}
use Rattle.disassembler.specs.declared.symbol.Symbol.{Symbol}
use Rattle.disassembler.specs.Names.{nearer, nearest}
use Rattle.disassembler.specs.Nearest.{IsNoNearer, IsNearest, FindsNearest}
use Rattle.disassembler.specs.Orders.{IsRising, IsInOrder}

-- each lies above the address
abbrev pub IsAbove : ℕ → Symbol → Type 0
IsAbove a s = nat_le s.address a ≡ false

nearer-none : (a : ℕ) (s : Symbol) (o : Option Symbol) → o ≡ None → nat_le s.address a ≡ false → nearer a s o ≡ None
nearer-none a s None e h = rw h refl
nearer-none a s (Some t) e h = absurd cc

pub nearest-none : (ss : List Symbol) (a : ℕ) → All (IsAbove a) ss → nearest ss a ≡ None
nearest-none [] a h = refl
nearest-none (s ∷ ss) a h = nearer-none a s (nearest ss a) (nearest-none ss a (All-tail (IsAbove a) s ss h)) (All-head (IsAbove a) s ss h)

-- where there is none, each lies above
none_here : (a : ℕ) (s : Symbol) (o : Option Symbol) (b : Bool) → nat_le s.address a ≡ b → nearer a s o ≡ None → (o ≡ None) × (nat_le s.address a ≡ false)
none_here a s None true e h = absurd (let k : nearer a s None ≡ Some s = rw e refl in cc)
none_here a s None false e h = (refl, e)
none_here a s (Some t) b e h = absurd (elim (nat_le s.address a && nat_lt t.address s.address) as (λ v. cond v (Some s) (Some t) ≡ None → ⊥) [ true ↦ λ k. cc | false ↦ λ k. cc ] h)

pub none-nearest : (ss : List Symbol) (a : ℕ) → nearest ss a ≡ None → All (IsAbove a) ss
none-nearest [] a e = λ k d lt. absurd (omega arith)
none-nearest (s ∷ ss) a e =
    let h = none_here a s (nearest ss a) (nat_le s.address a) refl e in
    All-cons (IsAbove a) s ss h.1 (none-nearest ss a h.0)

-- what passes as the last of a filter is one of the list
same_some : (s t : Symbol) → Some t ≡ Some s → t ≡ s
same_some s t e = ap (λ o. elim o as (λ _. Symbol) [ Some x ↦ x | None ↦ t ]) e

last_here : (P : Symbol → Type 0) (o : Option Symbol) (s : Symbol) → IfSome o P → o ≡ Some s → P s
last_here P None s here e = absurd cc
last_here P (Some t) s here e = subst P (same_some s t e) here

last_if : (P : Symbol → Type 0) (t : Symbol) (ts : List Symbol) (s : Symbol) (b : Bool) (o : Option Symbol) → ((q : Option Symbol) → IfSome q P → last_or q ts ≡ Some s → P s) → IfSome o P → P t → last_or o (cond b (t ∷ ts) ts) ≡ Some s → P s
last_if P t ts s true o rest here one e = rest (Some t) one e
last_if P t ts s false o rest here one e = rest o here e

last_passes : (P : Symbol → Type 0) (p : Symbol → Bool) (ss : List Symbol) (s : Symbol) (o : Option Symbol) → All P ss → IfSome o P → last_or o (filter p ss) ≡ Some s → P s
last_passes P p [] s o h here e = last_here P o s here e
last_passes P p (t ∷ ss) s o h here e =
    last_if P t (filter p ss) s (p t) o (λ q met k. last_passes P p ss s q (All-tail P t ss h) met k) here (All-head P t ss h) e

-- what is last of some is last of them behind another
last_behind : (o : Option Symbol) (ts : List Symbol) (s : Symbol) → last_or None ts ≡ Some s → last_or o ts ≡ Some s
last_behind o [] s e = absurd cc
last_behind o (t ∷ ts) s e = e

last_kept : (t : Symbol) (ts : List Symbol) (s : Symbol) (b : Bool) → last_or None ts ≡ Some s → last_or None (cond b (t ∷ ts) ts) ≡ Some s
last_kept t ts s true e = last_behind (Some t) ts s e
last_kept t ts s false e = e

-- none passes
filter-none : (p : Symbol → Bool) (ss : List Symbol) → All (λ s. p s ≡ false) ss → filter p ss ≡ []
filter-none p [] h = refl
filter-none p (s ∷ ss) h = rw (All-head (λ s. p s ≡ false) s ss h) (filter-none p ss (All-tail (λ s. p s ≡ false) s ss h))

last_alone : (p : Symbol → Bool) (s : Symbol) (ss : List Symbol) → p s ≡ true → All (λ t. p t ≡ false) ss → last_or None (filter p (s ∷ ss)) ≡ Some s
last_alone p s ss passes none = rw (passes, filter-none p ss none) refl

-- a symbol below the address, before others that lie above it
first_is : (a : ℕ) (s : Symbol) (ss : List Symbol) → s.address ≤ a → All (IsAbove a) ss → IsNearest (s ∷ ss) a s
first_is a s ss below above = record {
  below = below;
  most = All-cons (IsNoNearer a s) s ss (λ _. omega arith) (All-weaker (IsAbove a) (IsNoNearer a s) (λ t h le. let gt : a < t.address = leb-false t.address a h in absurd (omega arith)) ss above);
  last = last_alone (λ t. t.address == s.address) s ss (eq-eqb s.address s.address refl)
      (All-weaker (IsAbove a) (λ t. (t.address == s.address) ≡ false) (λ t h. let gt : a < t.address = leb-false t.address a h in ne_eqb t.address s.address (λ e. omega arith)) ss above);
}

-- a symbol above the nearest one behind it
first_nearer : (a : ℕ) (s t : Symbol) (ss : List Symbol) → s.address ≤ a → t.address < s.address → IsNearest ss a t → IsNearest (s ∷ ss) a s
first_nearer a s t ss below greater n = record {
  below = below;
  most = All-cons (IsNoNearer a s) s ss (λ _. omega arith) (All-weaker (IsNoNearer a t) (IsNoNearer a s) (λ u h le. let k : u.address ≤ t.address = h le in omega arith) ss n.most);
  last = last_alone (λ u. u.address == s.address) s ss (eq-eqb s.address s.address refl)
      (All-weaker (IsNoNearer a t) (λ u. (u.address == s.address) ≡ false) (λ u h. ne_eqb u.address s.address (λ e. let k : u.address ≤ t.address = h (omega (arith, e)) in omega (arith, e))) ss n.most);
}

-- one that isn't nearer
rest_is : (a : ℕ) (s t : Symbol) (ss : List Symbol) → (s.address ≤ a → s.address ≤ t.address) → IsNearest ss a t → IsNearest (s ∷ ss) a t
rest_is a s t ss less n = record {
  below = n.below;
  most = All-cons (IsNoNearer a t) s ss less n.most;
  last = last_kept s (filter (λ u. u.address == t.address) ss) t (s.address == t.address) n.last;
}

not_nearer : (a : ℕ) (s t : Symbol) → nat_le s.address a && nat_lt t.address s.address ≡ false → s.address ≤ a → s.address ≤ t.address
not_nearer a s t e le = elim (and_cases (nat_le s.address a) (nat_lt t.address s.address) e) [
  | inl k ↦ let gt : a < s.address = leb-false s.address a k in omega arith
  | inr k ↦ ltb-false t.address s.address k
]

some_is : (a : ℕ) (s t u : Symbol) (ss : List Symbol) (b : Bool) → nat_le s.address a && nat_lt t.address s.address ≡ b → IsNearest ss a t → cond b (Some s) (Some t) ≡ Some u → IsNearest (s ∷ ss) a u
some_is a s t u ss true e n k =
    let parts = and_parts (nat_le s.address a) (nat_lt t.address s.address) e in
    subst (λ v. IsNearest (s ∷ ss) a v) (same_some u s k) (first_nearer a s t ss (leb-true s.address a parts.0) (ltb-true t.address s.address parts.1) n)
some_is a s t u ss false e n k = subst (λ v. IsNearest (s ∷ ss) a v) (same_some u t k) (rest_is a s t ss (not_nearer a s t e) n)

none_is : (a : ℕ) (s u : Symbol) (ss : List Symbol) (b : Bool) → nat_le s.address a ≡ b → All (IsAbove a) ss → cond b (Some s) None ≡ Some u → IsNearest (s ∷ ss) a u
none_is a s u ss true e above k = subst (λ v. IsNearest (s ∷ ss) a v) (same_some u s k) (first_is a s ss (leb-true s.address a e) above)
none_is a s u ss false e above k = absurd cc

step_is : (a : ℕ) (s u : Symbol) (ss : List Symbol) (o : Option Symbol) → nearest ss a ≡ o → ((t : Symbol) → nearest ss a ≡ Some t → IsNearest ss a t) → nearer a s o ≡ Some u → IsNearest (s ∷ ss) a u
step_is a s u ss None e rest k = none_is a s u ss (nat_le s.address a) refl (none-nearest ss a e) k
step_is a s u ss (Some t) e rest k = some_is a s t u ss (nat_le s.address a && nat_lt t.address s.address) refl (rest t e) k

-- what is found is the nearest
pub nearest-is : (ss : List Symbol) (a : ℕ) (s : Symbol) → nearest ss a ≡ Some s → IsNearest ss a s
nearest-is [] a s e = absurd cc
nearest-is (t ∷ ss) a s e = step_is a t s ss (nearest ss a) refl (λ u k. nearest-is ss a u k) e

-- there is one nearest at most
only_one : (ss : List Symbol) (a : ℕ) (s t : Symbol) → IsNearest ss a s → IsNearest ss a t → t ≡ s
only_one ss a s t n m =
    let up : s.address ≤ t.address = last_passes (IsNoNearer a t) (λ u. u.address == s.address) ss s None m.most tt n.last n.below in
    let down : t.address ≤ s.address = last_passes (IsNoNearer a s) (λ u. u.address == t.address) ss t None n.most tt m.last m.below in
    let same : t.address ≡ s.address = omega (arith, up, down) in
    same_some s t (sym m.last ∙ ap (λ k. last_or None (filter (λ u. u.address == k) ss)) same ∙ n.last)

-- and the nearest is found
is_found : (ss : List Symbol) (a : ℕ) (s : Symbol) (o : Option Symbol) → nearest ss a ≡ o → IsNearest ss a s → o ≡ Some s
is_found ss a s None e n =
    let gt : nat_le s.address a ≡ false = last_passes (IsAbove a) (λ u. u.address == s.address) ss s None (none-nearest ss a e) tt n.last in
    absurd (let k : a < s.address = leb-false s.address a gt in let l : s.address ≤ a = n.below in omega (arith, k, l))
is_found ss a s (Some t) e n = ap Some (only_one ss a s t n (nearest-is ss a t e))

pub nearest-from : (ss : List Symbol) (a : ℕ) (s : Symbol) → IsNearest ss a s → nearest ss a ≡ Some s
nearest-from ss a s n = is_found ss a s (nearest ss a) refl n

-- in order the same is found
in_order_is : (ss ts : List Symbol) (a : ℕ) (o : Option Symbol) → IsInOrder ss ts → nearest ts a ≡ o → o ≡ nearest ss a
in_order_is ss ts a None r e = sym (nearest-none ss a (All-permutation (IsAbove a) ts ss (IsPermutation-sym ss ts r.moved) (none-nearest ts a e)))
in_order_is ss ts a (Some s) r e =
    let n = nearest-is ts a s e in
    sym (nearest-from ss a s (record {
      below = n.below;
      most = All-permutation (IsNoNearer a s) ts ss (IsPermutation-sym ss ts r.moved) n.most;
      last = sym (ap (last_or None) (r.kept s.address)) ∙ n.last;
    }))

pub nearest-in_order : (ss ts : List Symbol) (a : ℕ) → IsInOrder ss ts → nearest ts a ≡ nearest ss a
nearest-in_order ss ts a r = in_order_is ss ts a (nearest ts a) r refl

-- whatever is found
found_is : (ss : List Symbol) (a : ℕ) (o : Option Symbol) → nearest ss a ≡ o → FindsNearest ss a o
found_is ss a None e = All-weaker (IsAbove a) (λ s. a < s.address) (λ s h. leb-false s.address a h) ss (none-nearest ss a e)
found_is ss a (Some s) e = nearest-is ss a s e

pub nearest_found : (ss : List Symbol) (a : ℕ) → FindsNearest ss a (nearest ss a)
nearest_found ss a = found_is ss a (nearest ss a) refl
