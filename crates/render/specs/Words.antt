-- A word as a line tells of it.
use Rattle.std.specs.Prelude.{◌≡◌, ◌≤◌, take}
use Rattle.disassembler.specs.Tables.{Table}
use Rattle.render.specs.declared.entry_lines.WordText.{WordText}
use Rattle.render.specs.Entries.{word_part}

-- this is the text of the word at this pc
pub record IsWordText (names : Table) (t : WordText) : Type 0 where
  pub fits : t.len ≤ 139
  pub text : take t.len t.bytes ≡ word_part names t.pc t.word
