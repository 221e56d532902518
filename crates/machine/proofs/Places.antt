-- Elements of lists by their places.
use Rattle.std.proofs.Common.{◌≡◌, ◌≢◌, ◌<◌, ◌≤◌, ℕ, zero, suc, arith, Some, None, List, [], ◌∷◌, ◌++◌, length, refl, ap}
use Rattle.std.specs.Prelude.{slice_get, slice_set}
use Rattle.std.specs.List.{slice_index_or}

-- an element that is put at a place stands there
pub got_there : {A : Type 0} (xs : List A) (i : ℕ) (x : A) → i < length xs → slice_get (slice_set xs i x) i ≡ Some x
got_there [] i x lt = absurd (omega arith)
got_there (y ∷ ys) zero x lt = refl
got_there (y ∷ ys) (suc i) x lt = got_there ys i x (omega arith)

-- elsewhere stands what stood there
pub got_elsewhere : {A : Type 0} (xs : List A) (i j : ℕ) (x : A) → j ≢ i → slice_get (slice_set xs i x) j ≡ slice_get xs j
got_elsewhere [] i j x ne = refl
got_elsewhere (y ∷ ys) zero zero x ne = absurd (ne refl)
got_elsewhere (y ∷ ys) zero (suc j) x ne = refl
got_elsewhere (y ∷ ys) (suc i) zero x ne = refl
got_elsewhere (y ∷ ys) (suc i) (suc j) x ne = got_elsewhere ys i j x (λ e. ne (ap suc e))

-- the element that stands there already changes nothing
pub set_again : {A : Type 0} (xs : List A) (i : ℕ) (x : A) → slice_get xs i ≡ Some x → slice_set xs i x ≡ xs
set_again [] i x e = refl
set_again (y ∷ ys) zero x e = ap (λ z. z ∷ ys) (same e)
  where
    same : Some y ≡ Some x → x ≡ y
    same e = grind arith
set_again (y ∷ ys) (suc i) x e = ap (λ zs. y ∷ zs) (set_again ys i x e)

-- within a list it makes no difference what stands beyond
pub within : {A : Type 0} (xs : List A) (i : ℕ) (d e : A) → i < length xs → slice_index_or xs i d ≡ slice_index_or xs i e
within [] i d e lt = absurd (omega arith)
within (x ∷ xs) zero d e lt = refl
within (x ∷ xs) (suc i) d e lt = within xs i d e (omega arith)

pub beyond : {A : Type 0} (xs : List A) (i : ℕ) (d : A) → length xs ≤ i → slice_index_or xs i d ≡ d
beyond [] i d le = refl
beyond (x ∷ xs) zero d le = absurd (omega arith)
beyond (x ∷ xs) (suc i) d le = beyond xs i d (omega arith)

-- one element more at the end of a list
pub got_more : {A : Type 0} (xs : List A) (x : A) (j : ℕ) → j < length xs → slice_get (xs ++ x ∷ []) j ≡ slice_get xs j
got_more [] x j lt = absurd (omega arith)
got_more (y ∷ ys) x zero lt = refl
got_more (y ∷ ys) x (suc j) lt = got_more ys x j (omega arith)

pub got_last : {A : Type 0} (xs : List A) (x : A) → slice_get (xs ++ x ∷ []) (length xs) ≡ Some x
got_last [] x = refl
got_last (y ∷ ys) x = got_last ys x

-- there is an element at each place within a list
pub none_past : {A : Type 0} (xs : List A) (j : ℕ) → slice_get xs j ≡ None → length xs ≤ j
none_past [] j e = omega arith
none_past (y ∷ ys) zero e = cc
none_past (y ∷ ys) (suc j) e = let le = none_past ys j e in omega (arith, le)
