-- Why a command's hart or address is refused.
use Rattle.std.specs.Prelude.{ℕ, ◌%◌, ◌==◌, ◌&&◌, cond, nat_lt, Option, Some, None, is_some, Result, Ok, Err}
use Rattle.debugger.specs.declared.commands.fault.DebugFault.{DebugFault}
use Rattle.debugger.specs.declared.commands.fault.DebugFault.TheVariants.{NoHart, Address}
use Rattle.table.specs.Program.{word_at}
use Rattle.flat.specs.State.{Setting}
use Rattle.flat.specs.Reads.{is_readable}
use Rattle.machine.specs.Reads.{log_word}
use Rattle.machine.specs.States.{State}

-- a value, unless there is a fault
abbrev pub unless : {A : Type 0} → Option DebugFault → A → Result A DebugFault
unless None x = Ok x
unless (Some fault) x = Err fault

-- harts have the numbers below how many there are
abbrev pub hart_fault : Setting → ℕ → Option DebugFault
hart_fault s h = cond (nat_lt h s.count) None (Some NoHart)

-- a word of memory lies at a multiple of 4 below the undo logs
abbrev pub word_fault : Setting → ℕ → Option DebugFault
word_fault s a = cond (is_readable s a) None (Some Address)

-- a word of the undo logs
abbrev pub log_fault : State → ℕ → Option DebugFault
log_fault m a = cond (is_some (log_word m a)) None (Some Address)

-- a word of text lies at a multiple of 4 in it
abbrev pub text_fault : Setting → ℕ → Option DebugFault
text_fault s b = cond ((b % 4 == 0) && is_some (word_at s.segments b)) None (Some Address)
