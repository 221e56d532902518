-- What contracts see of a history.
use Rattle.std.specs.Prelude.{ℕ, List, replicate}
use Rattle.std.specs.List.{flat_map}
use Rattle.schedule.specs.declared.choices.Choice.{Choice}
use Rattle.schedule.specs.declared.history.Batch.{Batch}

-- the choices of batches, in order, each as often as it was made
abbrev pub choices_in : List Batch → List Choice
choices_in batches = flat_map (λ b. replicate b.times b.choice) batches

-- the choices, and how many notes there is room for
pub record Kept : Type 0 where
  pub choices : List Choice
  pub room : ℕ
