-- What standard output and the file of a request take.
use Rattle.std.specs.Prelude.{ℕ, List}
use Rattle.words.specs.Sinks.{IsUntouched, SinkState, TookAll}

-- the texts that standard output and a file take, and the sinks that they are put into
pub record Texts : Type 0 where
  pub output : List ℕ
  pub file : List ℕ

pub record Sinks : Type 0 where
  pub output : SinkState
  pub file : SinkState

-- both took just their texts
pub record TakeAll (before after : Sinks) (texts : Texts) : Type 0 where
  pub output : TookAll before.output after.output texts.output
  pub file : TookAll before.file after.file texts.file

-- neither of them took anything
abbrev pub AreUntouched : Sinks → Sinks → Type 0
AreUntouched before after = IsUntouched before.output after.output × IsUntouched before.file after.file
