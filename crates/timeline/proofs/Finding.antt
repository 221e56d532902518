-- The first of a list that passes a test, looked for from its head on.
use Rattle.std.proofs.Common.{◌≡◌, ◌<◌, ℕ, Bool, true, List, Some, length, get_or, drop, drop-cons, sym}
use Rattle.std.specs.List.{find}

-- the one at a place passes
pub found : {X : Type 0} (test : X → Bool) (xs : List X) (i : ℕ) (x : X) → i < length xs → x ≡ get_or xs i x → test x ≡ true → Some x ≡ find test (drop i xs)
found test xs i x within is passes = rw (drop-cons xs i x, sym is, passes)
