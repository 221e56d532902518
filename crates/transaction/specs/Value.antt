-- What contracts see of a hart's transaction.
use Rattle.std.specs.Prelude.{ℕ, ◌≡◌, ◌<◌, Bool, List, Option, None, IsSome}
use Rattle.words.specs.declared.cause.AbortCause.{AbortCause}
use Rattle.words.specs.declared.stamp.Stamp.{Stamp}
use Rattle.undo_log.specs.Value.{Log}

-- how many transactions are nested; the registers and the pc to go on with after an abort; the stamp, which outside a transaction is
-- the one that an abort has left; the overflow bit; the possible-cycle flag; why it is being aborted, if it is; the undo log
pub record Transaction : Type 0 where
  pub depth : ℕ
  pub checkpoint : List ℕ
  pub abort_pc : ℕ
  pub stamp : Option Stamp
  pub overflow : Bool
  pub cycle : Bool
  pub aborting : Option AbortCause
  pub log : Log

-- a transaction that runs has a stamp, and outside none is being aborted
pub record IsSound (depth : ℕ) (stamp : Option Stamp) (aborting : Option AbortCause) : Type 0 where
  pub stamped : 0 < depth → IsSome stamp
  pub outside : depth ≡ 0 → aborting ≡ None
