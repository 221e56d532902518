-- What each look at a machine shows.
use Rattle.std.specs.Prelude.{ℕ, ◌≡◌, ◌/◌, ◌++◌, List, Option, None, IfSome, Result, Ok, Err, codes}
use Rattle.std.specs.Option.{option_map, option_or}
use Rattle.std.specs.List.{flat_map, range_with_len}
use Rattle.words.specs.Limits.{block_bytes}
use Rattle.words.specs.Bytes.{number_at}
use Rattle.words.specs.declared.entry.Width.TheVariants.{Word as word_wide}
use Rattle.words.specs.declared.sink.SinkFault.{SinkFault}
use Rattle.words.specs.Sinks.{SinkState}
use Rattle.table.specs.Program.{word_at}
use Rattle.network.specs.declared.net.Flight.{Flight}
use Rattle.directory.specs.declared.entry.DirEntry.{DirEntry}
use Rattle.directory.specs.Entries.{shown_entry}
use Rattle.protocol.specs.Machine.{Machine}
use Rattle.protocol.specs.Messages.{shown as shown_message}
use Rattle.protocol.specs.Network.{LiesBelow}
use Rattle.protocol.specs.Values.{peek, raw, view}
use Rattle.texts.specs.Puts.{Puts}
use Rattle.disassembler.specs.Tables.{Table}
use Rattle.disassembler.specs.Listing.{line}
use Rattle.render.specs.Blocks.{directory_text, word_line}
use Rattle.render.specs.Registers.{registers_lines, status_text}
use Rattle.machine.specs.States.{State, setting_of, shown}
use Rattle.machine.specs.Reads.{info_of, log_word}
use Rattle.machine.specs.Turns.{is_held}
use Rattle.debugger.specs.declared.commands.command.Look.{Look}
use Rattle.debugger.specs.declared.commands.command.Look.TheVariants.{Regs, Word, Raw, View, Line, Dir, Dirs, Tx, Log, Dis, Messages, Harts, Help}
use Rattle.debugger.specs.declared.commands.fault.DebugFault.{DebugFault}
use Rattle.debugger.specs.declared.commands.fault.DebugFault.TheVariants.{Device}
use Rattle.debugger.specs.Manual.{help_text}
use Rattle.debugger.specs.Refusals.{hart_fault, word_fault, log_fault, text_fault}
use Rattle.debugger.specs.LookTexts.{cached_line, tx_line, entry_line, message_line, hart_line}

-- why a look is refused, if it is: its hart is tested first, and then its address
abbrev pub refusal : State → Look → Option DebugFault
refusal m (Regs h) = hart_fault (setting_of m) h
refusal m (Word a) = word_fault (setting_of m) a
refusal m (Raw a) = word_fault (setting_of m) a
refusal m (View h a) = option_or (hart_fault (setting_of m) h) (word_fault (setting_of m) a)
refusal m (Line h a) = option_or (hart_fault (setting_of m) h) (word_fault (setting_of m) a)
refusal m (Dir a) = word_fault (setting_of m) a
refusal m Dirs = None
refusal m (Tx h) = hart_fault (setting_of m) h
refusal m (Log a) = log_fault m a
refusal m (Dis b) = text_fault (setting_of m) b
refusal m Messages = None
refusal m Harts = None
refusal m Help = None

-- the line of an entry that the directory keeps. It keeps just those that aren't the first one, by rising block (see `Machine::kept` and `used`)
abbrev pub kept_line : ℕ × DirEntry → List ℕ
kept_line e = entry_line e.0 (shown_entry e.1)

-- the line of a message in flight
abbrev pub flight_line : ℕ → State → Flight → List ℕ
flight_line sets m f = message_line f.message (is_held (shown sets m) (shown_message f.message))

-- the line of hart i
abbrev pub line_of_hart : Table → Machine → ℕ → List ℕ
line_of_hart names w i = hart_line names i (w.harts i).pc (status_text (w.harts i).status) (option_map info_of (w.harts i).tx) (option_map (λ r. r.block) (w.harts i).request) (w.harts i).reserved

-- the line of a word at an address, where bytes are read so
abbrev pub word_text : ℕ → (ℕ → ℕ) → List ℕ
word_text a bytes = word_line a (number_at bytes a word_wide)

-- the text that a look shows, with names. The bound is any number above those of all messages in flight
abbrev pub IsTextOf : Table → ℕ → State → Look → List ℕ → Type 0
IsTextOf names sets m (Regs h) t = t ≡ registers_lines names ((shown sets m).harts h).regs ((shown sets m).harts h).pc ((shown sets m).harts h).status
IsTextOf names sets m (Word a) t = (bound : ℕ) → LiesBelow bound (shown sets m).net → t ≡ word_text a (peek bound (shown sets m))
IsTextOf names sets m (Raw a) t = (bound : ℕ) → LiesBelow bound (shown sets m).net → t ≡ word_text a (raw bound (shown sets m))
IsTextOf names sets m (View h a) t = (bound : ℕ) → LiesBelow bound (shown sets m).net → t ≡ word_text a (view bound (shown sets m) h)
IsTextOf names sets m (Line h a) t = t ≡ cached_line (((shown sets m).harts h).lines (a / block_bytes))
IsTextOf names sets m (Dir a) t = t ≡ directory_text ((shown sets m).entries (a / block_bytes)) ++ codes "\n"
IsTextOf names sets m Dirs t = t ≡ flat_map kept_line m.directory.kept
IsTextOf names sets m (Tx h) t = t ≡ tx_line (option_map info_of ((shown sets m).harts h).tx)
IsTextOf names sets m (Log a) t = IfSome (log_word m a) (λ v. t ≡ word_line a v)
IsTextOf names sets m (Dis b) t = IfSome (word_at (setting_of m).segments b) (λ w. t ≡ line names b w)
IsTextOf names sets m Messages t = t ≡ flat_map (flight_line sets m) m.flights
IsTextOf names sets m Harts t = t ≡ flat_map (line_of_hart names (shown sets m)) (range_with_len 0 (setting_of m).count)
IsTextOf names sets m Help t = t ≡ help_text

-- what a look shows was put, and that came out so
pub record Shows (names : Table) (sets : ℕ) (m : State) (look : Look) (before after : SinkState) (put : Result Unit SinkFault) : Type 0 where
  pub text : List ℕ
  pub is : IsTextOf names sets m look text
  pub puts : Puts before after text put

-- a put that failed is told as Device
abbrev pub told : Result Unit SinkFault → Result Unit DebugFault
told (Ok done) = Ok done
told (Err fault) = Err Device
