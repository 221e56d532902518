-- What a sink has taken and how often it failed, and what comes of putting a text into it.
use Rattle.std.specs.Prelude.{ℕ, ◌≡◌, ◌≤◌, ◌+◌, ◌++◌, ◌⊎◌, List, length, take, min, Option}
use Rattle.std.specs.Option.{option_map}

-- all bytes taken so far, where the sink tells them; and how many puts failed, up to the greatest number that the sink counts to
pub record SinkState : Type 0 where
  pub taken : Option (List ℕ)
  pub failed : ℕ

-- what was taken grew by a beginning of these bytes
abbrev pub TookBeginning : Option (List ℕ) → Option (List ℕ) → List ℕ → Type 0
TookBeginning old new bytes = (n : ℕ) × (n ≤ length bytes) × (new ≡ option_map (λ before. before ++ take n bytes) old)

-- the sink took just this text
pub record TookAll (before after : SinkState) (text : List ℕ) : Type 0 where
  pub whole : after.taken ≡ option_map (λ bytes. bytes ++ text) before.taken
  pub clean : after.failed ≡ before.failed

-- the sink took a beginning of this text, and one put more failed
pub record TookPart (before after : SinkState) (text : List ℕ) : Type 0 where
  pub part : TookBeginning before.taken after.taken text
  pub fault : after.failed ≡ min (before.failed + 1) 18446744073709551615

-- a text was put: the sink took all of it, or a put failed
abbrev pub IsPut : SinkState → SinkState → List ℕ → Type 0
IsPut before after text = TookAll before after text ⊎ TookPart before after text

-- nothing was put
abbrev pub IsUntouched : SinkState → SinkState → Type 0
IsUntouched before after = after ≡ before
