-- What comes of a text that is put, by what the putting answered.
use Rattle.std.proofs.Common.{ℕ, List, Result, Ok, Err, inl, inr}
use Rattle.words.specs.declared.sink.SinkFault.{SinkFault}
use Rattle.words.specs.Sinks.{IsPut, SinkState}
use Rattle.texts.specs.Puts.{Puts}

-- a text that was put is put, whatever was answered
pub puts-put : (a b : SinkState) (text : List ℕ) (r : Result Unit SinkFault) → Puts a b text r → IsPut a b text
puts-put a b text (Ok _) puts = inl (record { whole = puts.whole; clean = puts.clean })
puts-put a b text (Err _) puts = inr (record { part = puts.part; fault = puts.fault })
