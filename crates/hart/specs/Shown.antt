-- A hart and its parts, as the rows of the protocol speak of them. There a cache is a map from blocks to lines, and a log the list of its
-- records, the newest first. The bytes that the hart has put out stand in the machine.
use Rattle.std.specs.Prelude.{ℕ, false, cond, ◌==◌, List, [], map, reverse, Option, Some, None, unwrap_or}
use Rattle.std.specs.Option.{option_map}
use Rattle.words.specs.declared.stamp.Stamp.{Stamp}
use Rattle.undo_log.specs.Value.{Log}
use Rattle.undo_log.specs.declared.record.Record.{Record}
use Rattle.undo_log.specs.Log.{records}
use Rattle.transaction.specs.Value.{Transaction as Tx}
use Rattle.transaction.specs.Transactions.{kept_stamp}
use Rattle.cache.specs.declared.line.Line.{Line as CachedLine}
use Rattle.cache.specs.Sets.{Sets, line_at}
use Rattle.protocol.specs.Lines.{Line}
use Rattle.protocol.specs.Hart.{Hart, Transaction, LogRecord}
use Rattle.conflict.specs.Requests.{shown_request, shown_put}
use Rattle.hart.specs.Parts.{Parts}

abbrev pub shown_line : CachedLine → Line
shown_line l = record { state = l.state; content = l.content; marks = l.marks }

-- the lines of a cache with so many sets
abbrev pub lines_of : ℕ → Sets → ℕ → Option Line
lines_of sets cache b = option_map shown_line (line_at sets cache b)

abbrev pub shown_record : Record → LogRecord
shown_record r = record { block = r.block; before = r.before }

abbrev pub shown_log : Log → List LogRecord
shown_log log = reverse (map shown_record (records log))

-- the stamp that a transaction has; one that runs has one
abbrev pub stamp_in : Tx → Stamp
stamp_in tx = unwrap_or tx.stamp (record { count = 0; hart = 0 })

abbrev pub running : Tx → Transaction
running tx = record {
  checkpoint = tx.checkpoint;
  abort_pc = tx.abort_pc;
  depth = tx.depth;
  stamp = stamp_in tx;
  overflow = tx.overflow;
  cycle = tx.cycle;
  aborting = tx.aborting;
  log = shown_log tx.log;
}

-- the transaction that runs, if one does
abbrev pub shown_tx : Tx → Option Transaction
shown_tx tx = cond (tx.depth == 0) None (Some (running tx))

-- an outermost transaction that begins, with the registers and the pc to go back to, and its stamp
abbrev pub first_begun : List ℕ → ℕ → Stamp → Transaction
first_begun regs abort_pc stamp = record {
  checkpoint = regs;
  abort_pc = abort_pc;
  depth = 1;
  stamp = stamp;
  overflow = false;
  cycle = false;
  aborting = None;
  log = [];
}

-- a hart whose cache has so many sets, and which has put out these bytes
abbrev pub shown_hart : ℕ → List ℕ → Parts → Hart
shown_hart sets output p = record {
  regs = p.regs;
  pc = p.pc;
  output = output;
  status = p.status;
  tx = shown_tx p.tx;
  kept_stamp = kept_stamp p.tx;
  reserved = p.reserved;
  lines = lines_of sets p.cache;
  request = option_map shown_request p.request;
  put = option_map shown_put p.put;
  fresh = p.fresh;
}
