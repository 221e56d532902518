-- The flat state that the plain machine keeps.
use Rattle.std.specs.Prelude.{ℕ, ◌≡◌, ◌≢◌, ◌≤◌, ◌+◌, ◌%◌, Option, Some, None, List, length, min}
use Rattle.std.specs.Option.{option_map}
use Rattle.table.specs.declared.effect.Act.{Act}
use Rattle.table.specs.declared.effect.Act.TheVariants as act
use Rattle.table.specs.declared.effect.MemoryAct.{MemoryAct}
use Rattle.words.specs.Bytes.{bytes_in}
use Rattle.words.specs.Limits.{log_records}
use Rattle.flat.specs.State.{Tx, FlatHart, seen}
use Rattle.flat.specs.Causes.{depth_of}
use Rattle.reference.specs.declared.hart.Transaction.{Transaction}
use Rattle.reference.specs.declared.hart.Hart.{Hart}
use Rattle.loader.specs.Memory.{mem_of}
use Rattle.reference.specs.Overlays.{reads_in, writes_in, byte_over, within}

-- a transaction, in a memory of a size
abbrev pub tx_of : ℕ → Transaction → Tx
tx_of size t = record {
  checkpoint = t.checkpoint;
  abort_pc = t.abort_pc;
  depth = t.depth;
  stores = t.stores;
  writes = λ a. within size (byte_over t.overlay) a;
  read_set = λ b. reads_in t.overlay b;
  write_set = λ b. writes_in t.overlay b;
}

-- a hart, in a memory of a size
abbrev pub hart_of : ℕ → Hart → FlatHart
hart_of size h = record {
  regs = h.regs;
  pc = h.pc;
  output = h.output.items;
  status = h.status;
  tx = option_map (tx_of size) h.tx;
}

-- memory as a hart sees it
abbrev pub view_of : List ℕ → Hart → ℕ → ℕ
view_of bytes h a = seen (option_map (tx_of (length bytes)) h.tx) (mem_of bytes) a

-- how many stores there were after an access that may store, counted up to the records of a log
abbrev pub stores_after : ℕ → Option ℕ → ℕ
stores_after n None = n
stores_after n (Some v) = min (n + 1) log_records

-- an access lies in memory, and at a multiple of its width
pub record FitsIn (size : ℕ) (m : MemoryAct) : Type 0 where
  pub inside : m.addr + bytes_in m.width ≤ size
  pub aligned : m.addr % bytes_in m.width ≡ 0

-- the access of an act, if it has one
abbrev pub Fits : ℕ → Act → Type 0
Fits size (act.Memory m) = FitsIn size m
Fits size (act.Conditional rd m) = FitsIn size m
Fits size _ = Unit {0}

-- a transaction can go one deeper
abbrev pub HasRoom : Option Transaction → Act → Type 0
HasRoom t (act.Begin p) = depth_of (option_map (tx_of 0) t) ≢ 255
HasRoom t _ = Unit {0}
