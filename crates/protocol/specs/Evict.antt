-- A hart gives up a line.
--
-- As in LogTM (HPCA 2006) a transaction that gives up a line that it used sets its overflow bit, and the directory goes on
-- sending it the requests of others. Here a Put says whether its line was marked, by whichever mark, and only then is the entry
-- sticky; a shared line is dropped without a message, and its hart stays among the sharers. An E line goes back as an M line
-- does, so that the directory knows each owner.
use Rattle.std.specs.Prelude.{ℕ, Bool, false, cond, ◌||◌, Option, Some, None}
use Rattle.std.specs.Option.{option_map}
use Rattle.words.specs.declared.entry.Entry.{Entry}
use Rattle.words.specs.declared.entry.Entry.TheVariants.{Spill}
use Rattle.words.specs.declared.message.LineState.{LineState}
use Rattle.words.specs.declared.message.LineState.TheVariants.{Shared, Exclusive, Modified}
use Rattle.flat.specs.Reservation.{without_block}
use Rattle.protocol.specs.Messages.{Put}
use Rattle.words.specs.Marks.{is_marked}
use Rattle.protocol.specs.Lines.{Line}
use Rattle.protocol.specs.Hart.{Hart, Transaction, PutOut, HartResult, with_line}

-- a transaction has given up a line: the overflow bit is set if it was marked
abbrev pub tx_spilled : Bool → Transaction → Transaction
tx_spilled marked t = record t { overflow = t.overflow || marked }

-- the hart without its line of block b. A reservation goes with its line
abbrev pub without_line : ℕ → Line → Hart → Hart
without_line b l h = with_line b None (record h { tx = option_map (tx_spilled (is_marked l.marks)) h.tx; reserved = without_block b h.reserved })

-- the entry for a marked line
abbrev pub spill_of : ℕ → ℕ → Line → Option Entry
spill_of i b l = cond (is_marked l.marks) (Some (Spill i b)) None

-- a shared line is dropped
abbrev pub drop_row : ℕ → ℕ → Line → Hart → HartResult
drop_row i b l h = record { hart = without_line b l h; sent = None; entry = spill_of i b l; stamped = false }

-- an E or M line goes back to memory
abbrev pub write_back_row : ℕ → ℕ → Line → Hart → HartResult
write_back_row i b l h = record {
  hart = record (without_line b l h) { put = Some (record { block = b; content = l.content; marked = is_marked l.marks }) };
  sent = Some (Put i b l.content (is_marked l.marks));
  entry = spill_of i b l;
  stamped = false;
}

-- not while another Put is out
abbrev pub write_back_row_if_none_out : ℕ → ℕ → Line → Option PutOut → Hart → Option HartResult
write_back_row_if_none_out i b l None h = Some (write_back_row i b l h)
write_back_row_if_none_out i b l (Some p) h = None

abbrev pub evict_by : LineState → ℕ → ℕ → Line → Hart → Option HartResult
evict_by Shared i b l h = Some (drop_row i b l h)
evict_by Exclusive i b l h = write_back_row_if_none_out i b l h.put h
evict_by Modified i b l h = write_back_row_if_none_out i b l h.put h

abbrev pub evict_line : ℕ → ℕ → Option Line → Hart → Option HartResult
evict_line i b None h = None
evict_line i b (Some l) h = evict_by l.state i b l h

-- hart i gives up its line of block b; None where that isn't enabled
abbrev pub evict_row : ℕ → ℕ → Hart → Option HartResult
evict_row i b h = evict_line i b (h.lines b) h
