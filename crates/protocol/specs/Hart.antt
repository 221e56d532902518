-- The state of one hart: registers, transaction, cache, undo log, and the messages that it waits for.
--
-- As in LogTM (HPCA 2006) a transaction has a checkpoint, a time stamp, a log of before-images, an overflow bit and a
-- possible-cycle flag, and nested transactions are one. There the log lies in memory and cache, and software undoes it; here it
-- is a list, which the hart itself undoes one record a step. So a transaction that aborts stays a transaction until its log is
-- empty.
use Rattle.std.specs.Prelude.{ℕ, Bool, true, false, cond, ◌==◌, Option, Some, None, List, []}
use Rattle.std.specs.Option.{option_map}
use Rattle.words.specs.declared.entry.Entry.{Entry}
use Rattle.words.specs.declared.stamp.Stamp.{Stamp}
use Rattle.words.specs.declared.cause.AbortCause.{AbortCause}
use Rattle.words.specs.declared.cause.Status.{Status}
use Rattle.words.specs.declared.cause.Status.TheVariants.{Running, Exited, Stopped}
use Rattle.words.specs.declared.message.Kind.{Kind}
use Rattle.flat.specs.State.{FlatHart, Tx}
use Rattle.flat.specs.Bytes.{put_at}
use Rattle.protocol.specs.Messages.{Block, Granted, Message}
use Rattle.protocol.specs.Lines.{Line}

-- what a block held before a transaction first stored to its line
pub record LogRecord : Type 0 where
  pub block : ℕ
  pub before : Block

-- a transaction that runs or is being aborted: what an abort goes back to; how deep it is nested; its stamp; whether a marked
-- line was given up (overflow); whether it refused an earlier one (cycle); why it is being aborted, if it is; its records, the
-- newest first
pub record Transaction : Type 0 where
  pub checkpoint : List ℕ
  pub abort_pc : ℕ
  pub depth : ℕ
  pub stamp : Stamp
  pub overflow : Bool
  pub cycle : Bool
  pub aborting : Option AbortCause
  pub log : List LogRecord

-- a request that is out, and what is kept of its answers: the grant; which harts have answered; whether one refused; the content
-- that one gave; and whether one with an earlier stamp refused
pub record Request : Type 0 where
  pub block : ℕ
  pub kind : Kind
  pub grant : Option Granted
  pub answered : ℕ → Bool
  pub refused : Bool
  pub content : Option Block
  pub earlier : Bool

-- a Put that isn't over
pub record PutOut : Type 0 where
  pub block : ℕ
  pub content : Block
  pub marked : Bool

-- a hart: the kept stamp is the one that an abort has left for the next transaction, the reserved block the one that LR has reserved, and a hart is fresh that was
-- granted a request and has made no core step since. How many lines it can hold is said in Caches
pub record Hart : Type 0 where
  pub regs : List ℕ
  pub pc : ℕ
  pub output : List ℕ
  pub status : Status
  pub tx : Option Transaction
  pub kept_stamp : Option Stamp
  pub reserved : Option ℕ
  pub lines : ℕ → Option Line
  pub request : Option Request
  pub put : Option PutOut
  pub fresh : Bool

abbrev pub is_running : Status → Bool
is_running Running = true
is_running (Exited v) = false
is_running (Stopped c p) = false

-- the stamp that a hart's requests and refusals carry
abbrev pub stamp_of : Option Transaction → Option Stamp
stamp_of None = None
stamp_of (Some t) = Some t.stamp

abbrev pub overflow_of : Option Transaction → Bool
overflow_of None = false
overflow_of (Some t) = t.overflow

abbrev pub log_of : Option Transaction → List LogRecord
log_of None = []
log_of (Some t) = t.log

-- the hart with this line of a block
abbrev pub with_line : ℕ → Option Line → Hart → Hart
with_line b l h = record h { lines = put_at b l h.lines }

-- whether its Put of this block isn't over
abbrev pub has_put_of : ℕ → Option PutOut → Bool
has_put_of b None = false
has_put_of b (Some p) = p.block == b

-- the content of its Put of this block
abbrev pub put_content : ℕ → Option PutOut → Option Block
put_content b None = None
put_content b (Some p) = cond (p.block == b) (Some p.content) None

-- a transaction as the flat machine has it, but for what it read and wrote: the causes of an instruction depend on the depth
-- alone
abbrev pub flat_tx : Transaction → Tx
flat_tx t = record {
  checkpoint = t.checkpoint;
  abort_pc = t.abort_pc;
  depth = t.depth;
  stores = 0;
  writes = λ a. None;
  read_set = λ b. false;
  write_set = λ b. false;
}

abbrev pub flat_hart : Hart → FlatHart
flat_hart h = record { regs = h.regs; pc = h.pc; output = h.output; status = h.status; tx = option_map flat_tx h.tx }

-- what a row makes of a hart: its new state, the message that it sends, the entry that it gives, and whether it took a new stamp
pub record HartResult : Type 0 where
  pub hart : Hart
  pub sent : Option Message
  pub entry : Option Entry
  pub stamped : Bool

-- a row without message and entry
abbrev pub quiet : Hart → HartResult
quiet h = record { hart = h; sent = None; entry = None; stamped = false }

abbrev pub sends : Message → Hart → HartResult
sends m h = record { hart = h; sent = Some m; entry = None; stamped = false }

abbrev pub gives : Entry → Hart → HartResult
gives e h = record { hart = h; sent = None; entry = Some e; stamped = false }
