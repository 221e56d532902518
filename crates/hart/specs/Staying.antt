-- What stays of a hart, whatever it does.
use Rattle.std.specs.Prelude.{ℕ, ◌≡◌, ◌*◌, ◌-◌, List, length, take, reverse}
use Rattle.std.specs.List.{flat_map}
use Rattle.undo_log.specs.Value.{Log}
use Rattle.undo_log.specs.Bytes.{record_bytes, overwritten}
use Rattle.transaction.specs.Value.{Transaction}
use Rattle.protocol.specs.Hart.{LogRecord, log_of}
use Rattle.hart.specs.Parts.{Parts}
use Rattle.hart.specs.Shown.{shown_tx}

-- the bytes of a record, as it stands in a log
abbrev pub bytes_of : LogRecord → List ℕ
bytes_of r = record_bytes (record { block = r.block; before = r.before })

-- of a log's records, the newest first, those newer than the oldest so many, the oldest first
abbrev pub newer : ℕ → List LogRecord → List LogRecord
newer many records = reverse (take (length records - many) records)

-- the bytes of a log that had so many records, and now has these: newer ones stand behind those, and all other bytes are as they were
abbrev pub with_newer : List ℕ → ℕ → List LogRecord → List ℕ
with_newer bytes many records = overwritten bytes (36 * many) (flat_map bytes_of (newer many records))

-- the undo log stays where it is, and of its bytes those of records that come are written, and no others: a record that is undone or let go keeps its bytes
pub record KeepsLog (old new : Transaction) : Type 0 where
  pub base : new.log.base ≡ old.log.base
  pub bytes : new.log.bytes ≡ with_newer old.log.bytes (length (log_of (shown_tx old))) (log_of (shown_tx new))

-- where a hart stands in its machine never changes, and of its log only what the records say
pub record StaysPut (old new : Parts) : Type 0 where
  pub index : new.index ≡ old.index
  pub harts : new.harts ≡ old.harts
  pub size : new.size ≡ old.size
  pub log : KeepsLog old.tx new.tx

-- two logs have the same bytes, at the same addresses
pub record AreLoggedAlike (one other : Log) : Type 0 where
  pub base : one.base ≡ other.base
  pub bytes : one.bytes ≡ other.bytes
