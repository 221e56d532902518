-- A list in which nothing is written.
use Rattle.std.proofs.Common.{◌≡◌, ℕ, zero, suc, true, Option, Some, None, List, [], ◌∷◌, refl}
use Rattle.std.specs.Prelude.{is_none}
use Rattle.std.specs.List.{list_all}
use Rattle.outcomes.specs.Overlays.{byte_at}

-- no place has a byte, by a test that computes
pub byte_at-blank : (xs : List (Option ℕ)) (k : ℕ) → list_all is_none xs ≡ true → byte_at xs k ≡ None
byte_at-blank [] k e = refl
byte_at-blank (None ∷ xs) zero e = refl
byte_at-blank (None ∷ xs) (suc k) e = byte_at-blank xs k e
byte_at-blank (Some v ∷ xs) k e = cc
