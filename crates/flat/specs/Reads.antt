-- What can be read of a machine to which a flat state belongs, and whose turn is next.
use Rattle.std.specs.Prelude.{ℕ, ◌≡◌, ◌<◌, ◌≤◌, ◌/◌, ◌%◌, ◌+◌, Bool, true, false, cond, ◌==◌, ◌&&◌, nat_le, nat_lt, Option, Some, None, List, ◌⊎◌}
use Rattle.words.specs.declared.cause.Status.{Status}
use Rattle.words.specs.declared.entry.Step.{Step}
use Rattle.words.specs.declared.entry.Step.TheVariants.{Core, Evict, Deliver}
use Rattle.words.specs.declared.entry.Width.TheVariants.{Word}
use Rattle.words.specs.Bytes.{number_at}
use Rattle.flat.specs.State.{Setting, Flat, FlatHart, flat_view, has_written}
use Rattle.flat.specs.Causes.{logs_from}
use Rattle.flat.specs.Steps.{IsRunning}

-- a word lies at a multiple of 4, below the undo logs
abbrev pub is_readable : Setting → ℕ → Bool
is_readable s a = (a % 4 == 0) && nat_le (a + 4) (logs_from s)

-- the word at an address, where one can be read
abbrev pub word_if : Setting → (ℕ → ℕ) → ℕ → Option ℕ
word_if s m a = cond (is_readable s a) (Some (number_at m a Word)) None

-- the word at an address as hart i sees it, where i is a hart
abbrev pub word_seen : Flat → ℕ → ℕ → Option ℕ
word_seen f i a = cond (nat_lt i f.setting.count) (word_if f.setting (flat_view f i) a) None

-- no hart below n has written the block
abbrev pub NoneWrote : Flat → ℕ → ℕ → Type 0
NoneWrote f b n = (k : ℕ) → k < n → has_written (f.hart k).tx b ≡ false

-- the word in place: as the lowest hart that has written its block sees it, and memory's where none has
pub record IsInPlace (f : Flat) (a v : ℕ) : Type 0 where
  pub written : (i : ℕ) → i < f.setting.count → has_written (f.hart i).tx (a / 32) ≡ true → NoneWrote f (a / 32) i → v ≡ number_at (flat_view f i) a Word
  pub unwritten : NoneWrote f (a / 32) f.setting.count → v ≡ number_at f.mem a Word

-- registers, pc and status
abbrev pub shown : FlatHart → List ℕ × ℕ × Status
shown h = (h.regs, h.pc, h.status)

-- the same of hart i, where i is a hart
abbrev pub shown_if : Flat → ℕ → Option (List ℕ × ℕ × Status)
shown_if f i = cond (nat_lt i f.setting.count) (Some (shown (f.hart i))) None

-- no hart from one number up to another runs
abbrev pub NoneRuns : Flat → ℕ → ℕ → Type 0
NoneRuns f from to = (k : ℕ) → from ≤ k → k < to → IsRunning f k → ⊥

-- the next running hart after another: the lowest above it, else the lowest of all
abbrev pub IsNextAfter : Flat → ℕ → ℕ → Type 0
IsNextAfter f after i = IsRunning f i × (((after < i) × NoneRuns f (after + 1) i) ⊎ ((i ≤ after) × NoneRuns f (after + 1) f.setting.count × NoneRuns f 0 i))

-- the turn after a hart's: the next running hart's, if one runs
abbrev pub IsNextTurn : Flat → ℕ → Option Step → Type 0
IsNextTurn f after None = NoneRuns f 0 f.setting.count
IsNextTurn f after (Some (Core i)) = IsNextAfter f after i
IsNextTurn f after (Some (Evict i b)) = ⊥
IsNextTurn f after (Some (Deliver k)) = ⊥
