-- Sinks with a buffer before a writer: what they have handed on to it, and what they keep back.
use Rattle.std.specs.Prelude.{ℕ, ◌≡◌, ◌≤◌, List, [], Option, Result, MatchResult, length, take}
use Rattle.std.specs.Io.KnownBytes.{Appends}
use Rattle.words.specs.Sinks.{SinkState}

-- a writer took these bytes; or, where it failed, a beginning of them
abbrev pub Wrote : {E : Type 0} → Option (List ℕ) → Option (List ℕ) → List ℕ → Result Unit E → Type 0
Wrote before after bytes result = MatchResult result (λ _. Appends before after bytes) (λ _. (n : ℕ) × (n ≤ length bytes) × Appends before after (take n bytes))

-- nothing is kept back: what was handed on is all that was taken
abbrev pub IsHandedOn : Option (List ℕ) → List ℕ → SinkState → Type 0
IsHandedOn handed kept state = (kept ≡ []) × (handed ≡ state.taken)
