-- The line of an entry.
use Rattle.std.specs.Prelude.{ℕ, List, [], ◌∷◌, Option, Some, None, codes, decimal}
use Rattle.std.specs.List.{concat}
use Rattle.words.specs.Causes.{cause_number, cause_name}
use Rattle.words.specs.declared.cause.AbortCause.{AbortCause}
use Rattle.words.specs.declared.cause.AbortCause.TheVariants.{Asked, Conflict, LogFull, Trapped}
use Rattle.words.specs.declared.cause.Cause.{Cause}
use Rattle.words.specs.declared.entry.Access.{Access}
use Rattle.words.specs.declared.entry.Entry.{Entry}
use Rattle.words.specs.declared.entry.Entry.TheVariants.{Retire, Abort, Trap, Refuse, Spill}
use Rattle.words.specs.Bytes.{bytes_in}
use Rattle.texts.specs.Numerals.{hexadecimal}
use Rattle.disassembler.specs.Canonical.{canonical}
use Rattle.disassembler.specs.Mnemonics.{register}
use Rattle.render.specs.Parts.{block_text}
use Rattle.disassembler.specs.Labels.{label}
use Rattle.disassembler.specs.Tables.{Table}

-- the register that was written, and its value
abbrev pub write_part : Option (ℕ × ℕ) → List ℕ
write_part None = []
write_part (Some w) = concat (codes " | " ∷ register w.0 ∷ codes "=0x" ∷ hexadecimal w.1 ∷ [])

-- an access: how many bytes, the address, and the bytes as a number
abbrev pub access_part : List ℕ → Option Access → List ℕ
access_part name None = []
access_part name (Some a) = concat (codes " | " ∷ name ∷ codes " " ∷ decimal (bytes_in a.width) ∷ codes " 0x" ∷ hexadecimal a.addr ∷ codes "=0x" ∷ hexadecimal a.value ∷ [])

-- a word: its pc, with the name if it has one, and its text
abbrev pub word_part : Table → ℕ → ℕ → List ℕ
word_part names pc word = concat (codes " 0x" ∷ hexadecimal pc ∷ label names pc ∷ codes " " ∷ hexadecimal word ∷ codes " " ∷ canonical word ∷ [])

-- what a word did, and the end of its line
abbrev pub effect_part : Option (ℕ × ℕ) → Option Access → Option Access → List ℕ
effect_part write load store = concat (write_part write ∷ access_part (codes "load") load ∷ access_part (codes "store") store ∷ codes "\n" ∷ [])

-- a cause, by its number and its name
abbrev pub cause_text : Cause → List ℕ
cause_text cause = concat (codes "trap " ∷ decimal (cause_number cause) ∷ codes " " ∷ cause_name cause ∷ [])

abbrev pub abort_text : AbortCause → List ℕ
abort_text Asked = codes "asked"
abort_text Conflict = codes "conflict"
abort_text LogFull = codes "logfull"
abort_text (Trapped cause pc) = cause_text cause

-- a line begins with the hart's number; behind a pc its name stands, if it has one
abbrev pub entry_line : Table → Entry → List ℕ
entry_line names (Retire i pc word write load store) = concat (decimal i ∷ word_part names pc word ∷ effect_part write load store ∷ [])
entry_line names (Abort i cause) = concat (decimal i ∷ codes " abort " ∷ abort_text cause ∷ codes "\n" ∷ [])
entry_line names (Trap i cause pc) = concat (decimal i ∷ codes " " ∷ cause_text cause ∷ codes " at 0x" ∷ hexadecimal pc ∷ label names pc ∷ codes "\n" ∷ [])
entry_line names (Refuse i requester block) = concat (decimal i ∷ codes " refuses " ∷ decimal requester ∷ codes " block " ∷ block_text block ∷ codes "\n" ∷ [])
entry_line names (Spill i block) = concat (decimal i ∷ codes " spills block " ∷ block_text block ∷ codes "\n" ∷ [])
