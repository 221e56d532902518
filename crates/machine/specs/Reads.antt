-- What is read of the machine: what the protocol's machine has there.
use Rattle.std.specs.Prelude.{ℕ, ◌≡◌, ◌+◌, ◌-◌, ◌/◌, ◌%◌, Bool, ◌&&◌, ◌==◌, cond, nat_lt, nat_le, List, length, Option, Some, None, slice_get}
use Rattle.std.specs.Option.{option_map, option_and_then}
use Rattle.words.specs.declared.cause.Status.{Status}
use Rattle.words.specs.Limits.{log_bytes}
use Rattle.undo_log.specs.Bytes.{word_at}
use Rattle.flat.specs.State.{Setting}
use Rattle.flat.specs.Causes.{logs_from}
use Rattle.flat.specs.Reads.{word_if}
use Rattle.protocol.specs.Hart.{Transaction}
use Rattle.protocol.specs.Machine.{Machine}
use Rattle.protocol.specs.Network.{Network, LiesBelow}
use Rattle.protocol.specs.Messages.{Message}
use Rattle.protocol.specs.Values.{first_below, view}
use Rattle.machine.specs.declared.info.TxInfo.{TxInfo}
use Rattle.machine.specs.States.{Seat, State, setting_of}

-- registers, pc and status of hart i, where i is a hart
abbrev pub regs_if : Machine → ℕ → Option (List ℕ × ℕ × Status)
regs_if w i = cond (nat_lt i w.setting.count) (Some ((w.harts i).regs, (w.harts i).pc, (w.harts i).status)) None

-- a transaction, without its registers and with the number of its records alone
abbrev pub info_of : Transaction → TxInfo
info_of t = record { depth = t.depth; records = length t.log; stamp = t.stamp; overflow = t.overflow; cycle = t.cycle; aborting = t.aborting }

-- what is read off the messages in flight: the first that there is, by number
abbrev pub FirstOf : {A : Type 0} → Network → (Message → Option A) → Option A → Type 0
FirstOf net f x = (keys : ℕ) → LiesBelow keys net → x ≡ first_below keys (λ number. option_and_then f (net number))

-- the word at an address as hart i sees it, where i is a hart
abbrev pub view_if : ℕ → Machine → ℕ → ℕ → Option ℕ
view_if keys w i a = cond (nat_lt i w.setting.count) (word_if w.setting (view keys w i) a) None

-- a word lies in the undo logs: at a multiple of 4, from the first of their bytes up to the end of memory
abbrev pub is_in_logs : Setting → ℕ → Bool
is_in_logs s a = (a % 4 == 0) && (nat_le (logs_from s) a && nat_lt a s.size)

-- the hart whose log a byte lies in: the logs lie from the end of memory down, that of hart 0 first
abbrev pub hart_of_log : Setting → ℕ → ℕ
hart_of_log s a = (s.size - (a + 1)) / log_bytes

-- the word at an address in the bytes of a hart's log
abbrev pub logged_word : ℕ → Seat → ℕ
logged_word a s = word_at s.hart.tx.log.bytes (a - s.hart.tx.log.base)

-- the word of the undo logs at an address
abbrev pub log_word : State → ℕ → Option ℕ
log_word m a = cond (is_in_logs (setting_of m) a) (option_map (logged_word a) (slice_get m.seats (hart_of_log (setting_of m) a))) None
