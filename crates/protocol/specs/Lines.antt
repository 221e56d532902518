-- A line of a cache: a block's words, how they may be used, and what the running transaction did with them.
--
-- LogTM (HPCA 2006) has an R and a W bit on each line of a MOESI cache, and an overflow bit a hart. The states here are S, E and
-- M, and a line has a third mark, `overflowed`: it was filled while the overflow bit was set, so the transaction may have used the
-- block before, and the line conflicts with every forward. Wherever a line is marked, that is any of the three.
use Rattle.std.specs.Prelude.{ℕ, Bool, true, false, cond, ◌+◌, ◌*◌, ◌/◌, ◌%◌, ◌||◌, Option, Some, None, is_some, map, slice_index}
use Rattle.std.specs.List.{range_with_len}
use Rattle.std.specs.Option.{option_map}
use Rattle.words.specs.declared.entry.Width.TheVariants.{Word}
use Rattle.words.specs.declared.message.Kind.{Kind}
use Rattle.words.specs.declared.message.Kind.TheVariants.{Read, Write}
use Rattle.words.specs.declared.message.LineState.{LineState}
use Rattle.words.specs.declared.message.LineState.TheVariants.{Shared, Exclusive, Modified}
use Rattle.table.specs.declared.effect.MemoryAct.{MemoryAct}
use Rattle.table.specs.declared.effect.Store.{Store}
use Rattle.words.specs.declared.marks.Marks.{Marks}
use Rattle.words.specs.Bytes.{byte_of, number_at}
use Rattle.words.specs.Limits.{block_bytes, block_words}
use Rattle.words.specs.LineStates.{is_owned}
use Rattle.words.specs.Marks as marks
use Rattle.words.specs.Marks.{no_marks}
use Rattle.flat.specs.Effects.{put_by, mem_put}
use Rattle.protocol.specs.Messages.{Block}

pub record Line : Type 0 where
  pub state : LineState
  pub content : Block
  pub marks : Marks

-- whether a line is enough: for a read any line, for a write E or M
abbrev pub is_enough : Kind → Option Line → Bool
is_enough kind None = false
is_enough Read (Some l) = true
is_enough Write (Some l) = is_owned l.state

-- the byte at an address, in the words of its block
abbrev pub byte_in : Block → ℕ → ℕ
byte_in words a = byte_of (slice_index words (a / 4 % 8)) (a % 4)

-- the words that a block has in memory, little-endian
abbrev pub words_at : (ℕ → ℕ) → ℕ → Block
words_at mem b = map (λ k. number_at mem (block_bytes * b + 4 * k) Word) (range_with_len 0 block_words)

-- the words of the block after an access that stores a number
abbrev pub words_put : MemoryAct → Option ℕ → Block → Block
words_put m None words = words
words_put m (Some v) words = words_at (mem_put (byte_in words) m (Some v)) (m.addr / 32)

-- a store makes a line modified
abbrev pub state_put : Option Store → LineState → LineState
state_put None state = state
state_put (Some s) state = Modified

-- the marks after an access in a transaction: what both loads and stores sets both
abbrev pub marks_used : MemoryAct → Marks → Marks
marks_used m k = record k { read = k.read || is_some m.load; written = k.written || is_some m.store }

-- a line after an access, in a transaction or outside
abbrev pub line_used : Bool → MemoryAct → Line → Line
line_used in_tx m l = record {
  state = state_put m.store l.state;
  content = words_put m (put_by (byte_in l.content) m) l.content;
  marks = cond in_tx (marks_used m l.marks) l.marks;
}

-- a line with the words that an undo puts back
abbrev pub line_undone : Block → Line → Line
line_undone before l = record l { state = Modified; content = before }

-- when its transaction ends, a line has no marks
abbrev pub line_cleared : Option Line → Option Line
line_cleared None = None
line_cleared (Some l) = Some (record l { marks = no_marks })

-- whether a hart refuses a forward, by the marks of its line and its overflow bit
abbrev pub refuses : Option Line → Bool → Kind → Bool
refuses line overflow kind = marks.refuses (option_map (λ l. l.marks) line) overflow kind

-- a line after a forward that is met: after a read it is shared and keeps its marks, after a write it is gone
abbrev pub line_given : Kind → Option Line → Option Line
line_given kind None = None
line_given Read (Some l) = Some (record l { state = Shared })
line_given Write (Some l) = None

-- what a line that no other cache may hold has
abbrev pub owned_content : Option Line → Option Block
owned_content None = None
owned_content (Some l) = cond (is_owned l.state) (Some l.content) None

-- a line's state when its request is given M, E or S: only M changes a line that is there
abbrev pub state_given : LineState → LineState → LineState
state_given Shared state = state
state_given Exclusive state = state
state_given Modified state = Modified

-- a line after a granted request: one that was absent is filled, overflowed if the overflow bit is set; one that was there keeps
-- content and marks
abbrev pub line_filled : LineState → Bool → Block → Option Line → Line
line_filled give overflow content None = record { state = give; content = content; marks = record no_marks { overflowed = overflow } }
line_filled give overflow content (Some l) = record l { state = state_given give l.state }
