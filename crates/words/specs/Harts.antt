-- Sets of harts.
use Rattle.std.specs.Prelude.{ℕ, ◌≡◌, ◌<◌, ◌≤◌, ◌==◌, Bool, true, false}
use Rattle.std.specs.Int.{bit_at}

-- whether a set, a mask with a bit for each hart, names a hart
unfoldable pub names : ℕ → ℕ → Bool
names set h = bit_at set h == 1

-- hart h is the first, from number n on, that a set names
pub record IsNext (set n h : ℕ) : Type 0 where
  pub from : n ≤ h
  pub named : names set h ≡ true
  pub first : (k : ℕ) → n ≤ k → k < h → names set k ≡ false
