-- A line of a source, as the user is shown it.
use Rattle.std.specs.Prelude.{ℕ, zero, suc, ◌==◌, ◌&&◌, ◌||◌, nat_le, cond, List, [], ◌++◌, map, take, slice_get, Option, Some, None}
use Rattle.std.specs.Str.Lines.{strip_carriage_return}
use Rattle.assembler.specs.Passes.{lines}
use Rattle.render.specs.Reports.{line_end}

-- the line with a number, from 1
abbrev pub line_numbered : ℕ → List ℕ → Option (List ℕ)
line_numbered zero source = None
line_numbered (suc before) source = slice_get (lines source) before

-- a printable character of ASCII and a tab are shown as they are, any other byte as a question mark
abbrev pub shown_byte : ℕ → ℕ
shown_byte c = cond ((c == 9) || (nat_le 32 c && nat_le c 126)) c 63

abbrev pub without_return : List ℕ → List ℕ
without_return line = strip_carriage_return line

-- of a line the first 255 bytes are shown, but for the carriage return at its end
abbrev pub quoted : List ℕ → List ℕ
quoted line = map shown_byte (take 255 (without_return line))

-- the line itself, if there is one
abbrev pub quotation : Option (List ℕ) → List ℕ
quotation None = []
quotation (Some line) = quoted line ++ line_end
