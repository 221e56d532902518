-- The machine that a program begins in: the flat machine's first state, with empty caches, and nothing in flight.
use Rattle.std.specs.Prelude.{ℕ, false, None}
use Rattle.flat.specs.State.{Setting, FlatHart}
use Rattle.flat.specs.Start.{first_state}
use Rattle.protocol.specs.Lines.{words_at}
use Rattle.protocol.specs.Hart.{Hart}
use Rattle.protocol.specs.Directory.{first_entry}
use Rattle.protocol.specs.Network.{no_messages}
use Rattle.protocol.specs.Machine.{Machine}

-- a hart with these registers, pc, output and status, and nothing else yet
abbrev pub first_hart : FlatHart → Hart
first_hart h = record {
  regs = h.regs;
  pc = h.pc;
  output = h.output;
  status = h.status;
  tx = None;
  kept_stamp = None;
  reserved = None;
  lines = λ b. None;
  request = None;
  put = None;
  fresh = false;
}

abbrev pub start : Setting → ℕ → Machine
start s entry = record {
  setting = s;
  harts = λ i. first_hart ((first_state s entry).hart i);
  entries = λ b. first_entry;
  memory = λ b. words_at (first_state s entry).mem b;
  net = no_messages;
  stamps = 0;
}
