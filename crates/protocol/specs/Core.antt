-- One step of a hart's core: None where it isn't enabled.
--
-- A hart that runs and doesn't wait retires the word at its pc, or traps, or starts an abort; one that is being aborted undoes
-- its newest record, or ends the abort. For a block that it lacks, or may not write, it sends a request, first making way for it
-- in its cache. What an instruction does to registers, pc, output and status, and its entry, are the flat machine's words, with
-- the line's bytes for memory.
--
-- As in LogTM (HPCA 2006) a store to a line without the W bit appends the block's words to the log, and a commit resets the log
-- and clears the marks. There an abort runs a software handler, which walks the log backwards; here each core step undoes one
-- record, and the marks keep others out until the last is undone. A store that would need one record more than the log holds starts
-- an abort instead.
use Rattle.std.specs.Prelude.{ℕ, Bool, true, false, not, cond, ◌+◌, ◌-◌, ◌/◌, ◌==◌, ◌&&◌, Option, Some, None, Result, Ok, Err, List, [], ◌∷◌, length, is_some, is_none, nat_le, unwrap_or}
use Rattle.std.specs.Option.{option_map}
use Rattle.words.specs.declared.entry.Entry.TheVariants.{Trap, Abort}
use Rattle.words.specs.declared.cause.Cause.{Cause}
use Rattle.words.specs.declared.cause.AbortCause.{AbortCause}
use Rattle.words.specs.declared.cause.AbortCause.TheVariants.{Asked, LogFull, Trapped}
use Rattle.words.specs.declared.cause.Status.TheVariants.{Stopped}
use Rattle.words.specs.declared.message.Kind.{Kind}
use Rattle.words.specs.declared.message.Kind.TheVariants.{Read, Write}
use Rattle.table.specs.declared.effect.Effect.{Effect}
use Rattle.table.specs.declared.effect.MemoryAct.{MemoryAct}
use Rattle.table.specs.declared.effect.Act.{Act}
use Rattle.table.specs.declared.effect.Act.TheVariants as act
use Rattle.table.specs.declared.effect.Load.{Load}
use Rattle.words.specs.Registers.{with_reg}
use Rattle.table.specs.Effects.{resolved}
use Rattle.table.specs.Program.{word_at}
use Rattle.flat.specs.State.{Setting}
use Rattle.flat.specs.Causes.{next_of}
use Rattle.flat.specs.Effects.{retire_of, write_by, output_by, status_by}
use Rattle.flat.specs.Steps.{status_for}
use Rattle.flat.specs.Reservation.{is_reserved}
use Rattle.words.specs.Limits.{log_records}
use Rattle.words.specs.LineStates.{is_owned}
use Rattle.protocol.specs.Lines.{Line, is_enough, byte_in, line_used, line_undone, line_cleared}
use Rattle.protocol.specs.Hart.{Hart, Transaction, LogRecord, HartResult, quiet, gives, is_running, with_line, has_put_of, flat_hart}
use Rattle.protocol.specs.Requests.{ask_row}
use Rattle.protocol.specs.Evict.{evict_row}

-- what a core is about to do: nothing is enabled; a row that needs no more than the hart has; or its line of a block isn't enough
pub data Move : Type 0 where
  Rests : Move
  Makes : (turn : HartResult) → Move
  Lacks : (kind : Kind) (block : ℕ) → Move

-- Aborts

-- a transaction starts to be aborted; its marks stay until the end
abbrev pub start_abort_row : AbortCause → Transaction → Hart → HartResult
start_abort_row cause t h = quiet (record h { tx = Some (record t { aborting = Some cause }); fresh = false })

-- the log is undone: registers and pc are those of the begin, no line has marks, and the next transaction keeps the stamp
abbrev pub end_abort_row : ℕ → AbortCause → Transaction → Hart → HartResult
end_abort_row i cause t h = gives (Abort i cause) (record h {
  regs = t.checkpoint;
  pc = t.abort_pc;
  status = status_for cause;
  tx = None;
  kept_stamp = Some t.stamp;
  reserved = None;
  lines = λ b. line_cleared (h.lines b);
  fresh = false;
})

-- a record's words go back to its block's line
abbrev pub undo_row : Transaction → LogRecord → List LogRecord → Line → Hart → HartResult
undo_row t r rest l h = quiet (with_line r.block (Some (line_undone r.before l)) (record h { tx = Some (record t { log = rest }); fresh = false }))

-- if the hart may write the line
abbrev pub undo_move : Transaction → LogRecord → List LogRecord → Option Line → Hart → Move
undo_move t r rest None h = Lacks Write r.block
undo_move t r rest (Some l) h = cond (is_owned l.state) (Makes (undo_row t r rest l h)) (Lacks Write r.block)

-- a step of a hart that is being aborted: the newest record first
abbrev pub abort_move : ℕ → AbortCause → Transaction → List LogRecord → Hart → Move
abort_move i cause t [] h = Makes (end_abort_row i cause t h)
abort_move i cause t (r ∷ rest) h = undo_move t r rest (h.lines r.block) h

-- Instructions

-- a trap stops the hart; in a transaction it starts an abort, and the abort's end stops it
abbrev pub trap_row : ℕ → Cause → Option Transaction → Hart → HartResult
trap_row i c None h = gives (Trap i c h.pc) (record h { status = Stopped c h.pc; reserved = None; fresh = false })
trap_row i c (Some t) h = start_abort_row (Trapped c h.pc) t h

-- the word w is retired with its effect: registers, pc, output, status and entry, by the bytes that the hart sees. The hart h has
-- the lines and the transaction that it leaves
abbrev pub retire_row : ℕ → (ℕ → ℕ) → ℕ → Effect → Hart → HartResult
retire_row i view w e h = gives (retire_of view i (flat_hart h) w e) (record h {
  regs = with_reg h.regs (write_by view e e.act);
  pc = e.next;
  output = output_by h.output h.regs e.act;
  status = status_by h.regs e.act;
  fresh = false;
})

-- a word without access looks at no memory
abbrev pub no_memory : ℕ → ℕ
no_memory a = 0

-- the transaction that begins: its stamp is the one that an abort has left, or else a new one
abbrev pub tx_begun : ℕ → ℕ → ℕ → Hart → Transaction
tx_begun i taken abort_pc h = record {
  checkpoint = h.regs;
  abort_pc = abort_pc;
  depth = 1;
  stamp = unwrap_or h.kept_stamp (record { count = taken; hart = i });
  overflow = false;
  cycle = false;
  aborting = None;
  log = [];
}

abbrev pub begin_row : ℕ → ℕ → ℕ → Effect → ℕ → Option Transaction → Hart → HartResult
begin_row i taken w e p None h = record (retire_row i no_memory w e (record h { tx = Some (tx_begun i taken p h); kept_stamp = None; reserved = None })) {
  stamped = is_none h.kept_stamp;
}
begin_row i taken w e p (Some t) h = retire_row i no_memory w e (record h { tx = Some (record t { depth = t.depth + 1 }) })

-- the end of the outermost transaction clears all marks (outside a transaction a commit traps: that case never occurs)
abbrev pub commit_row : ℕ → ℕ → Effect → Option Transaction → Hart → HartResult
commit_row i w e None h = retire_row i no_memory w e h
commit_row i w e (Some t) h =
    cond (t.depth == 1)
    (retire_row i no_memory w e (record h { tx = None; reserved = None; lines = λ b. line_cleared (h.lines b) }))
    (retire_row i no_memory w e (record h { tx = Some (record t { depth = t.depth - 1 }) }))

-- TABORT starts an abort (outside a transaction it traps: that case never occurs)
abbrev pub tabort_row : Option Transaction → Hart → HartResult
tabort_row None h = quiet h
tabort_row (Some t) h = start_abort_row Asked t h

-- an access needs what a store needs, if it is also one
abbrev pub kind_of : MemoryAct → Kind
kind_of m = cond (is_some m.store) Write Read

-- whether the block's words have to be logged first: it is a store, to a line without the W mark
abbrev pub is_log_due : MemoryAct → Line → Bool
is_log_due m l = is_some m.store && not l.marks.written

abbrev pub log_used : MemoryAct → Line → List LogRecord → List LogRecord
log_used m l log = cond (is_log_due m l) (record { block = m.addr / 32; before = l.content } ∷ log) log

abbrev pub tx_used : MemoryAct → Line → Transaction → Transaction
tx_used m l t = record t { log = log_used m l t.log }

-- an access to a line that is enough, which leaves this block reserved: in a transaction it logs and marks, and on a full log an abort
-- starts instead
abbrev pub access_row : ℕ → ℕ → Effect → MemoryAct → Option ℕ → Line → Option Transaction → Hart → HartResult
access_row i w e m kept l None h = retire_row i (byte_in l.content) w e (with_line (m.addr / 32) (Some (line_used false m l)) (record h { reserved = kept }))
access_row i w e m kept l (Some t) h =
    cond (is_log_due m l && nat_le log_records (length t.log))
    (start_abort_row LogFull t h)
    (retire_row i (byte_in l.content) w e (with_line (m.addr / 32) (Some (line_used true m l)) (record h { tx = Some (tx_used m l t); reserved = kept })))

-- if the line is enough
abbrev pub access_move : ℕ → ℕ → Effect → MemoryAct → Option ℕ → Option Line → Hart → Move
access_move i w e m kept None h = Lacks (kind_of m) (m.addr / 32)
access_move i w e m kept (Some l) h =
    cond (is_enough (kind_of m) (Some l))
    (Makes (access_row i w e m kept l h.tx h))
    (Lacks (kind_of m) (m.addr / 32))

-- the block that is reserved after an access: LR reserves that which it loads from
abbrev pub reserved_with : MemoryAct → Option Load → Option ℕ → Option ℕ
reserved_with m None r = r
reserved_with m (Some l) r = cond l.reserves (Some (m.addr / 32)) r

-- a conditional store: an access where the hart has reserved the block, which leaves it not reserved; elsewhere it fails at once
abbrev pub conditional_move : ℕ → ℕ → Effect → MemoryAct → Hart → Move
conditional_move i w e m h =
    cond (is_reserved (m.addr / 32) h.reserved)
    (access_move i w (resolved true e) m None (h.lines (m.addr / 32)) h)
    (Makes (retire_row i no_memory w (resolved false e) (record h { reserved = None })))

-- a word with an effect (EBREAK always traps: that case never occurs)
abbrev pub effect_move : ℕ → ℕ → ℕ → Effect → Act → Hart → Move
effect_move i taken w e act.Nothing h = Makes (retire_row i no_memory w e h)
effect_move i taken w e (act.Memory m) h = access_move i w e m (reserved_with m m.load h.reserved) (h.lines (m.addr / 32)) h
effect_move i taken w e (act.Conditional rd m) h = conditional_move i w e m h
effect_move i taken w e (act.Begin p) h = Makes (begin_row i taken w e p h.tx h)
effect_move i taken w e act.Commit h = Makes (commit_row i w e h.tx h)
effect_move i taken w e act.Abort h = Makes (tabort_row h.tx h)
effect_move i taken w e act.Call h = Makes (retire_row i no_memory w e h)
effect_move i taken w e act.Break h = Makes (retire_row i no_memory w e h)

-- the word at a hart's pc, where there is one
abbrev pub word_of : Setting → Hart → ℕ
word_of s h = unwrap_or (word_at s.segments h.pc) 0

-- by what the word at the pc does, or by its cause
abbrev pub instruction_move : Setting → ℕ → ℕ → Result Effect Cause → Hart → Move
instruction_move s i taken (Err c) h = Makes (trap_row i c h.tx h)
instruction_move s i taken (Ok e) h = effect_move i taken (word_of s h) e e.act h

-- in a transaction: an instruction, or a step of the abort
abbrev pub transaction_move : Setting → ℕ → ℕ → Transaction → Option AbortCause → Hart → Move
transaction_move s i taken t None h = instruction_move s i taken (next_of s (flat_hart h)) h
transaction_move s i taken t (Some cause) h = abort_move i cause t t.log h

abbrev pub tx_move : Setting → ℕ → ℕ → Option Transaction → Hart → Move
tx_move s i taken None h = instruction_move s i taken (next_of s (flat_hart h)) h
tx_move s i taken (Some t) h = transaction_move s i taken t t.aborting h

-- what the core of hart i is about to do, where so many stamps were taken: nothing, unless it runs and doesn't wait
abbrev pub core_move : Setting → ℕ → ℕ → Hart → Move
core_move s i taken h = cond (is_running h.status && is_none h.request) (tx_move s i taken h.tx h) Rests

-- Asking for a block

-- a line is evicted, and nothing else happens (so the hart isn't fresh any more); or there is room, and the request is sent
abbrev pub no_longer_fresh : HartResult → HartResult
no_longer_fresh t = record t { hart = record t.hart { fresh = false } }

abbrev pub ask_with_room : ℕ → Kind → ℕ → Option ℕ → Hart → Option HartResult
ask_with_room i kind b None h = Some (ask_row i kind b h)
ask_with_room i kind b (Some v) h = option_map no_longer_fresh (evict_row i v h)

-- a block that has a line needs no room
abbrev pub victim_for : (ℕ → Option ℕ) → ℕ → Option Line → Option ℕ
victim_for victim b None = victim b
victim_for victim b (Some l) = None

-- the line of block b isn't enough; while a Put of that block is out nothing is enabled
abbrev pub fetch_row : ℕ → (ℕ → Option ℕ) → Kind → ℕ → Hart → Option HartResult
fetch_row i victim kind b h = cond (has_put_of b h.put) None (ask_with_room i kind b (victim_for victim b (h.lines b)) h)

abbrev pub move_row : ℕ → (ℕ → Option ℕ) → Move → Hart → Option HartResult
move_row i victim Rests h = None
move_row i victim (Makes t) h = Some t
move_row i victim (Lacks kind b) h = fetch_row i victim kind b h

-- a core step of hart i, where so many stamps were taken, and these victims are evicted for blocks that are asked for
abbrev pub core_row : Setting → ℕ → ℕ → (ℕ → Option ℕ) → Hart → Option HartResult
core_row s i taken victim h = move_row i victim (core_move s i taken h) h
