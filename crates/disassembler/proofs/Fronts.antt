-- The front of a string.
use Rattle.std.proofs.Common.{◌≡◌, ℕ, zero, suc, ◌+◌, ◌<◌, ◌≤◌, ◌==◌, nat_lt, nat_eq, not, ◌&&◌, Bool, true, false, cond, List, [], ◌∷◌, length, take, take_all, Option, Some, None, refl, sym, ap, ◌∙◌, arith}
use Rattle.std.specs.List.{prefix_len, position_or_len, position}
use lib.Pointwise.{pointwise}
use Rattle.std.proofs.lemmas.Bool.{ltb-false}
use Rattle.std.proofs.lemmas.List.Sums.{prefix_len-le-length}

-- the front of what passes is what passes of the front
front_if : (p : ℕ → Bool) (n x : ℕ) (xs : List ℕ) (b : Bool) → take (prefix_len p (take n xs)) (take n xs) ≡ take n (take (prefix_len p xs) xs)
    → take (cond b (1 + prefix_len p (take n xs)) 0) (x ∷ take n xs) ≡ take (suc n) (take (cond b (1 + prefix_len p xs) 0) (x ∷ xs))
front_if p n x xs true h =
    let one : 1 + prefix_len p (take n xs) ≡ suc (prefix_len p (take n xs)) = omega arith in
    let more : 1 + prefix_len p xs ≡ suc (prefix_len p xs) = omega arith in
    ap (λ k. take k (x ∷ take n xs)) one ∙ ap (λ l. x ∷ l) h ∙ sym (ap (λ k. take (suc n) (take k (x ∷ xs))) more)
front_if p n x xs false h = refl

pub front-cut : (p : ℕ → Bool) (n : ℕ) (xs : List ℕ) → take (prefix_len p (take n xs)) (take n xs) ≡ take n (take (prefix_len p xs) xs)
front-cut p zero xs = refl
front-cut p (suc n) [] = refl
front-cut p (suc n) (x ∷ xs) = front_if p n x xs (p x) (front-cut p n xs)

-- where none passes, all stand before the first
none_len : (n k : ℕ) (b : Bool) → nat_lt k n ≡ b → None ≡ cond b (Some k) None → k ≤ n → n ≡ k
none_len n k true e h le = absurd cc
none_len n k false e h le = let over : n ≤ k = ltb-false k n e in omega arith

pub length-none : (p : ℕ → Bool) (xs : List ℕ) → None ≡ position p xs → length xs ≡ position_or_len p xs
length-none p xs h =
    none_len (length xs) (position_or_len p xs) (nat_lt (position_or_len p xs) (length xs)) refl h (prefix_len-le-length (λ x. not (p x)) xs)

some_len : (n k : ℕ) (b : Bool) → Some n ≡ cond b (Some k) None → n ≡ k
some_len n k true h = ap (λ o. elim o as (λ _. ℕ) [ Some x ↦ x | None ↦ n ]) h
some_len n k false h = absurd cc

pub place-some : (p : ℕ → Bool) (xs : List ℕ) (n : ℕ) → Some n ≡ position p xs → n ≡ position_or_len p xs
place-some p xs n h = some_len n (position_or_len p xs) (nat_lt (position_or_len p xs) (length xs)) h

-- a text is another if and only if its front is, with one more byte than the other has
pub eq-cut : (text other : List ℕ) → pointwise nat_eq (take (length other + 1) text) other ≡ pointwise nat_eq text other
eq-cut [] other = ap (λ l. pointwise nat_eq l other) (take_all (length other + 1) [] (omega arith))
eq-cut (c ∷ cs) [] = refl
eq-cut (c ∷ cs) (d ∷ ds) =
    let more : length (d ∷ ds) + 1 ≡ suc (length ds + 1) = omega arith in
    ap (λ k. pointwise nat_eq (take k (c ∷ cs)) (d ∷ ds)) more ∙ ap (λ b. nat_eq c d && b) (eq-cut cs ds)
