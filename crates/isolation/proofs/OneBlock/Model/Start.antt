-- A block at the start, and the states that steps lead to.
use Rattle.std.proofs.Common.{ℕ, [], false, Option, None}
use Rattle.words.specs.declared.message.Kind.{Kind}
use Rattle.protocol.specs.Messages.{Block}
use Rattle.protocol.specs.Directory.{Nobody}
use Rattle.isolation.proofs.OneBlock.Model.State.{Absent, Outside, Local, One}
use Rattle.isolation.proofs.OneBlock.Model.Step.{Step}

-- a hart at the start; a is what its first instruction does to the block
abbrev pub at_rest : Option Kind → Local
at_rest a = record {
  line = Absent;
  put = None;
  wait = None;
  get = None;
  puts = None;
  put_ack = false;
  grant = None;
  fwd = None;
  ack = None;
  nack = None;
  done = None;
  own = record { tx = Outside; conflict = false; overflow = false; flag = false; stamp = None; images = []; in_r = false; in_w = false; writes = None; access = a; spilled = false; refused_earlier = false; noted = false };
}

abbrev pub start : Block → (ℕ → Option Kind) → One
start memory access = record { owner = Nobody; sharers = λ _. false; busy = None; memory = memory; flat = memory; hart = λ h. at_rest (access h) }

-- t comes of s by steps in any order
pub data Run (n : ℕ) (s : One) : One → Type 0 where
  Here : Run n s s
  Then : (t u : One) → Run n s t → Step n t u → Run n s u
