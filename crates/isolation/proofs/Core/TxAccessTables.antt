-- What an access in a transaction makes of the log, and of the flat machine's transaction.
use Rattle.std.proofs.Common.{◌≡◌, ◌≢◌, ◌≤◌, ◌/◌, ◌+◌, ℕ, suc, List, ◌∷◌, Bool, true, false, not, ◌&&◌, Option, None, Some, cond, length, min, refl, arith}
use Rattle.std.specs.Prelude.{is_some, nat_le}
use Rattle.std.specs.Option.{option_map}
use Rattle.std.proofs.lemmas.Bool.Decides.{nat_tests}
use Rattle.table.specs.declared.effect.Load.{Load}
use Rattle.table.specs.declared.effect.Store.{Store}
use Rattle.table.specs.declared.effect.MemoryAct.{MemoryAct}
use Rattle.flat.specs.State.{Tx as FlatTx}
use Rattle.flat.specs.Effects.{tx_got, tx_put}
use Rattle.flat.proofs.Maps.{put_elsewhere}
use Rattle.protocol.specs.Messages.{Block}
use Rattle.protocol.specs.Lines.{Line}
use Rattle.protocol.specs.Hart.{Transaction, LogRecord}
use Rattle.isolation.proofs.Machine.World.{images_of}
use Rattle.isolation.proofs.Machine.Invariant.{SameTx}
use Rattle.isolation.proofs.Machine.Tables.{record_here, record_off}
use Rattle.isolation.proofs.Core.Accesses.{number}

-- a log with one record more, unless the line's first store was logged
abbrev pub log_with : ℕ → Block → Bool → List LogRecord → List LogRecord
log_with b d due log = cond due (record { block = b; before = d } ∷ log) log

-- the block's images then
pub images_here : (b : ℕ) (d : Block) (w : Bool) (log : List LogRecord) → images_of b (log_with b d (not w) log) ≡ cond w (images_of b log) (d ∷ images_of b log)
images_here b d true log = refl
images_here b d false log = record_here (record { block = b; before = d }) log

-- and another's
pub images_off : (b c : ℕ) (d : Block) (due : Bool) (log : List LogRecord) → c ≢ b → images_of c (log_with b d due log) ≡ images_of c log
images_off b c d true log n = record_off (record { block = b; before = d }) log c n
images_off b c d false log n = refl

-- the log has room for the record
room_for : (n k : ℕ) → n ≤ min k 113 → nat_le 113 n ≡ false → suc n ≤ min (min (k + 1) 113) 113
room_for n k e f = grind (arith, nat_tests)

room_still : (n k : ℕ) → n ≤ min k 113 → n ≤ min (min (k + 1) 113) 113
room_still n k e = grind (arith, nat_tests)

module _ (view : ℕ → ℕ) (m : MemoryAct) where
  -- the flat machine's transaction after it, with this load and this store
  abbrev pub tx_with : FlatTx → Option Load → Option Store → FlatTx
  tx_with u y z = tx_put (tx_got u m y) m (option_map (number view m) z)

  -- at another block its sets are as they were
  pub read_off : (u : FlatTx) (c : ℕ) → c ≢ m.addr / 32 → (y : Option Load) (z : Option Store) → (tx_with u y z).read_set c ≡ u.read_set c
  read_off u c n None None = refl
  read_off u c n None (Some q) = refl
  read_off u c n (Some y) None = put_elsewhere (m.addr / 32) c true u.read_set n
  read_off u c n (Some y) (Some q) = put_elsewhere (m.addr / 32) c true u.read_set n

  -- and its write set
  pub write_off : (u : FlatTx) (c : ℕ) → c ≢ m.addr / 32 → (y : Option Load) (z : Option Store) → (tx_with u y z).write_set c ≡ u.write_set c
  write_off u c n None None = refl
  write_off u c n (Some y) None = refl
  write_off u c n None (Some q) = put_elsewhere (m.addr / 32) c true u.write_set n
  write_off u c n (Some y) (Some q) = put_elsewhere (m.addr / 32) c true u.write_set n

  -- it is the flat machine's still
  module _ (l : Line) (t : Transaction) (u : FlatTx) (same : SameTx t u) where
    room_with : (w : Bool) → (not w && nat_le 113 (length t.log)) ≡ false → length (log_with (m.addr / 32) l.content (not w) t.log) ≤ min (min (u.stores + 1) 113) 113
    room_with true q = room_still (length t.log) u.stores same.logged
    room_with false q = room_for (length t.log) u.stores same.logged q

    -- its log has a record for each store at most
    pub tx_same : (y : Option Load) (z : Option Store) → ((is_some z && not l.marks.written) && nat_le 113 (length t.log)) ≡ false → SameTx (record t { log = log_with (m.addr / 32) l.content (is_some z && not l.marks.written) t.log }) (tx_with u y z)
    tx_same None None q = record { checkpoint = same.checkpoint; abort_pc = same.abort_pc; depth = same.depth; logged = same.logged }
    tx_same (Some y) None q = record { checkpoint = same.checkpoint; abort_pc = same.abort_pc; depth = same.depth; logged = same.logged }
    tx_same None (Some z) q = record { checkpoint = same.checkpoint; abort_pc = same.abort_pc; depth = same.depth; logged = room_with l.marks.written q }
    tx_same (Some y) (Some z) q = record { checkpoint = same.checkpoint; abort_pc = same.abort_pc; depth = same.depth; logged = room_with l.marks.written q }
