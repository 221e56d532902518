-- The registers of a hart.
use Rattle.std.specs.Prelude.{ℕ, ◌%◌, ◌==◌, ◌++◌, cond, List, [], ◌∷◌, codes, decimal}
use Rattle.std.specs.List.{concat, flat_map, range_with_len}
use Rattle.words.specs.declared.cause.Status.{Status}
use Rattle.words.specs.declared.cause.Status.TheVariants.{Running, Exited, Stopped}
use Rattle.texts.specs.Numerals.{hexadecimal}
use Rattle.words.specs.Registers.{reg}
use Rattle.disassembler.specs.Mnemonics.{register}
use Rattle.render.specs.Entries.{cause_text}
use Rattle.disassembler.specs.Labels.{label}
use Rattle.disassembler.specs.Tables.{Table}

-- a register and its value; four stand on a line
abbrev pub register_text : List ℕ → ℕ → List ℕ
register_text regs r = concat (register r ∷ codes "=0x" ∷ hexadecimal (reg regs r) ∷ cond (r % 4 == 3) (codes "\n") (codes " ") ∷ [])

-- whether a hart runs, or how it ended
abbrev pub status_text : Status → List ℕ
status_text Running = codes "running"
status_text (Exited a) = codes "exit " ++ decimal a
status_text (Stopped cause pc) = cause_text cause

-- the first n registers
unfoldable pub registers_text : List ℕ → ℕ → List ℕ
registers_text regs n = flat_map (register_text regs) (range_with_len 0 n)

-- how far a hart has come; behind its pc the name stands, if it has one
abbrev pub progress_line : Table → ℕ → Status → List ℕ
progress_line names pc status = concat (codes "pc=0x" ∷ hexadecimal pc ∷ label names pc ∷ codes " " ∷ status_text status ∷ codes "\n" ∷ [])

-- all registers, and then the pc and the status
abbrev pub registers_lines : Table → List ℕ → ℕ → Status → List ℕ
registers_lines names regs pc status = registers_text regs 32 ++ progress_line names pc status
