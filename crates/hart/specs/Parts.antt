-- What contracts see of a hart.
use Rattle.std.specs.Prelude.{ℕ, ◌≡◌, ◌≤◌, Bool, false, List, Option, Some, None}
use Rattle.words.specs.Limits.{most_harts}
use Rattle.words.specs.declared.cause.Status.{Status}
use Rattle.transaction.specs.Value.{Transaction, IsSound as TxIsSound}
use Rattle.cache.specs.Sets.{Sets, line_at, HasRoom}
use Rattle.conflict.specs.declared.request.Request.{Request}
use Rattle.conflict.specs.declared.request.PutOut.{PutOut}

-- the hart's number, how many harts the machine has, and how many bytes memory; registers, pc and status; the transaction, with
-- its undo log; the cache's sets; the block that is reserved; the request and the Put that are out; and whether the hart is fresh
pub record Parts : Type 0 where
  pub index : ℕ
  pub harts : ℕ
  pub size : ℕ
  pub regs : List ℕ
  pub pc : ℕ
  pub status : Status
  pub tx : Transaction
  pub cache : Sets
  pub reserved : Option ℕ
  pub request : Option Request
  pub put : Option PutOut
  pub fresh : Bool

-- what the end of a transaction leaves: no bit set, and no record
pub record IsIdle (tx : Transaction) : Type 0 where
  pub overflow : tx.overflow ≡ false
  pub cycle : tx.cycle ≡ false
  pub log : tx.log.count ≡ 0

-- a transaction that a hart may have
pub record IsKept (tx : Transaction) : Type 0 where
  pub sound : TxIsSound tx.depth tx.stamp tx.aborting
  pub idle : tx.depth ≡ 0 → IsIdle tx

-- a request for a block without a line went out where there was room for one, and the hart's lines are only taken from it since
abbrev pub HasRoomFor : ℕ → Sets → Request → Type 0
HasRoomFor sets cache r = line_at sets cache r.block ≡ None → HasRoom sets cache r.block

-- what every hart with so many sets keeps
pub record IsSound (sets : ℕ) (p : Parts) : Type 0 where
  pub few : p.harts ≤ most_harts
  pub tx : IsKept p.tx
  pub waits : (r : Request) → p.request ≡ Some r → HasRoomFor sets p.cache r
