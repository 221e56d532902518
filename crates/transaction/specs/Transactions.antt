-- What begins, commits and aborts make of a hart's transaction.
use Rattle.std.specs.Prelude.{ℕ, ◌+◌, ◌-◌, Bool, false, cond, ◌==◌, ◌&&◌, List, replicate, Option, Some, None, is_none, unwrap_or}
use Rattle.words.specs.declared.stamp.Stamp.{Stamp}
use Rattle.undo_log.specs.Log.{empty_log, cleared}
use Rattle.transaction.specs.Value.{Transaction}

-- no transaction, and no stamp kept; the undo log begins at this address
abbrev pub idle : ℕ → Transaction
idle base = record {
  depth = 0;
  checkpoint = replicate 32 0;
  abort_pc = 0;
  stamp = None;
  overflow = false;
  cycle = false;
  aborting = None;
  log = empty_log base;
}

-- one transaction more: the outermost keeps registers, pc and stamp, but a stamp that an abort has left stays
abbrev pub begun : Transaction → List ℕ → ℕ → Stamp → Transaction
begun tx regs pc stamp =
    cond (tx.depth == 0)
    (record tx { depth = 1; checkpoint = regs; abort_pc = pc; stamp = Some (unwrap_or tx.stamp stamp) })
    (record tx { depth = tx.depth + 1 })

-- whether a begin takes a new stamp: it is the outermost, and no abort has left one
abbrev pub takes_stamp : Transaction → Bool
takes_stamp tx = (tx.depth == 0) && is_none tx.stamp

-- one transaction less: the end of the outermost clears stamp, overflow bit, flag and log
abbrev pub committed : Transaction → Transaction
committed tx =
    cond (tx.depth == 1)
    (record tx { depth = 0; stamp = None; overflow = false; cycle = false; log = cleared tx.log })
    (record tx { depth = tx.depth - 1 })

-- none of the nested transactions runs any more, and the stamp is kept
abbrev pub aborted : Transaction → Transaction
aborted tx = record tx { depth = 0; overflow = false; cycle = false; aborting = None }

-- the stamp of the transaction that runs
abbrev pub running_stamp : Transaction → Option Stamp
running_stamp tx = cond (tx.depth == 0) None tx.stamp

-- outside a transaction, the stamp that an abort has left
abbrev pub kept_stamp : Transaction → Option Stamp
kept_stamp tx = cond (tx.depth == 0) tx.stamp None
