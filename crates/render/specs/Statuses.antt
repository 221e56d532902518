-- The status that the program ends with after a report.
use Rattle.std.specs.Prelude.{ℕ, ◌≡◌, ◌<◌, ◌≤◌, ◌==◌, cond, ◌⊎◌}
use Rattle.words.specs.declared.cause.Status.{Status}
use Rattle.words.specs.declared.cause.Status.TheVariants.{Running, Exited, Stopped}
use Rattle.flat.specs.State.{Flat}

-- what a hart asks for: 5 if it runs, 0 if it exited with 0, else 1
abbrev pub status_for : Status → ℕ
status_for Running = 5
status_for (Exited a) = cond (a == 0) 0 1
status_for (Stopped cause pc) = 1

-- the greatest that one of the first n harts asks for, or 0
pub record IsGreatest (f : Flat) (n s : ℕ) : Type 0 where
  pub bound : (i : ℕ) → i < n → status_for (f.hart i).status ≤ s
  pub reached : (s ≡ 0) ⊎ ((i : ℕ) × (i < n) × (status_for (f.hart i).status ≡ s))

-- the greatest that a hart asks for
abbrev pub IsStatusOf : Flat → ℕ → Type 0
IsStatusOf f s = IsGreatest f f.setting.count s

-- a status that goes with a report
abbrev pub IsReported : ℕ → Type 0
IsReported s = (s ≡ 0) ⊎ (s ≡ 1) ⊎ (s ≡ 5)
