-- What contracts see of an undo log.
use Rattle.std.specs.Prelude.{ℕ, ◌≡◌, ◌≤◌, ◌-◌, ◌*◌, List, drop, replicate}
use Rattle.words.specs.Limits.{log_bytes, log_records}

-- a log: the address of its first byte, all its bytes, how many records they hold, and the most that they ever held
pub record Log : Type 0 where
  pub base : ℕ
  pub bytes : List ℕ
  pub count : ℕ
  pub used : ℕ

-- each byte from this place on is 0
abbrev pub IsBlankFrom : ℕ → List ℕ → Type 0
IsBlankFrom place bytes = drop place bytes ≡ replicate (log_bytes - place) 0

-- no record lies above the most that the log ever held, and the bytes above were never written
pub record IsSound (bytes : List ℕ) (count used : ℕ) : Type 0 where
  pub within : count ≤ used
  pub most : used ≤ log_records
  pub blank : IsBlankFrom (36 * used) bytes
