-- What lies in memory: the blocks that a machine speaks of, and the bytes that an instruction accesses.
--
-- Memory has the addresses below the setting's size. From its top down lie the undo logs, which no instruction may access.
use Rattle.std.specs.Prelude.{ℕ, ◌≡◌, ◌<◌, ◌≤◌, ◌+◌, ◌*◌, ◌/◌, ◌%◌, All, IsSome}
use Rattle.std.specs.Option.{ForSome}
use Rattle.words.specs.Bytes.{bytes_in}
use Rattle.words.specs.Limits.{block_bytes}
use Rattle.table.specs.declared.effect.MemoryAct.{MemoryAct}
use Rattle.flat.specs.State.{Setting}
use Rattle.flat.specs.Causes.{logs_from}
use Rattle.protocol.specs.Messages.{block_of}
use Rattle.protocol.specs.Hart.{Hart, log_of}
use Rattle.protocol.specs.Machine.{Machine}

-- block b has a byte in memory (and all of its bytes, where memory's size is a multiple of a block's)
abbrev pub LiesInMemory : Setting → ℕ → Type 0
LiesInMemory s b = block_bytes * b < s.size

-- an access is at a multiple of its width, and ends below the undo logs; so it lies within one block, and that lies in memory
pub record IsAccessWithin (s : Setting) (m : MemoryAct) : Type 0 where
  pub aligned : m.addr % bytes_in m.width ≡ 0
  pub below : m.addr + bytes_in m.width ≤ logs_from s
  pub one_block : m.addr % block_bytes + bytes_in m.width ≤ block_bytes
  pub block : LiesInMemory s (m.addr / block_bytes)

-- a hart's lines, the records of its log, its request and its Put are of blocks in memory
pub record HartIsWithin (s : Setting) (h : Hart) : Type 0 where
  pub lines : (b : ℕ) → IsSome (h.lines b) → LiesInMemory s b
  pub records : All (λ r. LiesInMemory s r.block) (log_of h.tx)
  pub request : ForSome h.request (λ r. LiesInMemory s r.block)
  pub put : ForSome h.put (λ p. LiesInMemory s p.block)

-- so it is of every hart of a machine, and all messages in flight are about blocks in memory
pub record IsWithinMemory (w : Machine) : Type 0 where
  pub harts : (i : ℕ) → HartIsWithin w.setting (w.harts i)
  pub messages : (key : ℕ) → ForSome (w.net key) (λ m. LiesInMemory w.setting (block_of m))
