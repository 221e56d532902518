-- The records of an undo log, and what each call makes of the log.
use Rattle.std.specs.Prelude.{ℕ, ◌+◌, ◌-◌, ◌*◌, max, List, map, replicate}
use Rattle.std.specs.List.{range_with_len}
use Rattle.words.specs.Limits.{log_bytes}
use Rattle.undo_log.specs.declared.record.Record.{Record}
use Rattle.undo_log.specs.Value.{Log}
use Rattle.undo_log.specs.Bytes.{record_bytes, record_at, overwritten}

-- the records that the bytes below the pointer say, the oldest first
abbrev pub records : Log → List Record
records log = map (λ k. record_at log.bytes (36 * k)) (range_with_len 0 log.count)

-- a log at an address, before its first record
abbrev pub empty_log : ℕ → Log
empty_log base = record { base = base; bytes = replicate log_bytes 0; count = 0; used = 0 }

-- the record's bytes stand at the pointer, and the pointer has moved on, perhaps further than ever before
abbrev pub appended : Log → Record → Log
appended log r = record log { bytes = overwritten log.bytes (36 * log.count) (record_bytes r); count = log.count + 1; used = max log.used (log.count + 1) }

-- the record just below the pointer
abbrev pub newest_of : Log → Record
newest_of log = record_at log.bytes (36 * (log.count - 1))

-- the pointer has moved back by one record, and the bytes have stayed
abbrev pub popped : Log → Log
popped log = record log { count = log.count - 1 }

-- the pointer has moved back to the first byte, and the bytes have stayed
abbrev pub cleared : Log → Log
cleared log = record log { count = 0 }
