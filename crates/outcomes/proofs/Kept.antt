-- A set that a value is put into keeps what it had under each number.
use Rattle.std.proofs.Common.{◌≡◌, ℕ, Bool, true, false, Some, List, [], ◌∷◌, ◌++◌, refl, sym, ap, subst, ◌∙◌, zero, suc}
use Rattle.std.specs.Prelude.{slice_get, if◌then◌else◌}
use Rattle.std.specs.List.{list_any}
use Rattle.indexmap.specs.IndexSet.{insert_key}

pub get_append : {A : Type 0} (xs ys : List A) (n : ℕ) (x : A) → slice_get xs n ≡ Some x → slice_get (xs ++ ys) n ≡ Some x
get_append [] ys n x e = cc
get_append (y ∷ xs) ys zero x e = e
get_append (y ∷ xs) ys (suc n) x e = get_append xs ys n x e

pub still_there : {A : Type 0} (eq : A → A → Bool) (old new : List A) (v : A) → new ≡ insert_key eq old v → (n : ℕ) (x : A) → slice_get old n ≡ Some x → slice_get new n ≡ Some x
still_there eq old new v is n x e = subst (λ l. slice_get l n ≡ Some x) (sym is) (by (list_any (eq v) old))
  where
    by : (b : Bool) → slice_get (if b then old else (old ++ v ∷ [])) n ≡ Some x
    by true = e
    by false = get_append old (v ∷ []) n x e
