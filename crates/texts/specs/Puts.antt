-- What comes of putting a text into a sink.
use Rattle.std.specs.Prelude.{ℕ, ◌≡◌, ◌+◌, ◌++◌, List, Result, OnOk, OnErr, min}
use Rattle.std.specs.Option.{option_map}
use Rattle.words.specs.declared.sink.SinkFault.{SinkFault}
use Rattle.words.specs.Sinks.{SinkState, TookBeginning}

-- the sink took the text, or it took a beginning of the text and failed once more
pub record Puts (before after : SinkState) (text : List ℕ) (result : Result Unit SinkFault) : Type 0 where
  pub whole : OnOk result (after.taken ≡ option_map (λ bytes. bytes ++ text) before.taken)
  pub clean : OnOk result (after.failed ≡ before.failed)
  pub part : OnErr result (TookBeginning before.taken after.taken text)
  pub fault : OnErr result (after.failed ≡ min (before.failed + 1) 18446744073709551615)
