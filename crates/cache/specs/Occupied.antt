-- Which sets of a cache have a line, as a mask with a bit for each of the first 64 sets.
use Rattle.std.specs.Prelude.{ℕ, zero, suc, ◌≡◌, ◌<◌, ◌≤◌, ◌+◌, ◌*◌, ◌==◌, ◌||◌, Bool, true, false, List, [], ◌∷◌, cond, nat_le}
use Rattle.std.specs.Int.{bit_at}

-- whether a set may have a line: its bit says so, or it is none of the first 64
unfoldable pub may_have : ℕ → ℕ → Bool
may_have mask s = (bit_at mask s == 1) || nat_le 64 s

-- the mask of the first n sets, of which a list says which have a line
unfoldable pub mask_of : ℕ → List Bool → ℕ
mask_of zero occupied = 0
mask_of (suc n) [] = 0
mask_of (suc n) (b ∷ occupied) = cond b 1 0 + 2 * mask_of n occupied

-- set s is the first, from number n on, that may have a line
pub record IsNextSet (mask n s : ℕ) : Type 0 where
  pub from : n ≤ s
  pub may : may_have mask s ≡ true
  pub first : (k : ℕ) → n ≤ k → k < s → may_have mask k ≡ false
