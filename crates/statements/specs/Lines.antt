-- What a line of source makes.
use Rattle.std.specs.Prelude.{nat_le, ℕ, List, length, Option, Result}
use Rattle.std.specs.Str.Lines.{strip_carriage_return}
use Rattle.statements.specs.declared.fault.AsmFault.{AsmFault}
use Rattle.statements.specs.declared.fault.AsmFault.TheVariants.{TooLarge}
use Rattle.statements.specs.declared.place.Place.{Place}
use Rattle.statements.specs.Cutting.{parts_of}
use Rattle.statements.specs.Operands.{◌>>=◌, checked}
use Rattle.statements.specs.Places.{Labels}
use Rattle.statements.specs.Statements.{Made, statement_of}

-- a line without a carriage return at its end, if it has at most 255 bytes then
unfoldable pub checked_line : List ℕ → Result (List ℕ) AsmFault
checked_line line = checked (nat_le (length (strip_carriage_return line)) 255) TooLarge (strip_carriage_return line)

-- what a line makes at its place, with the labels, if they are known yet
unfoldable pub line_of : Place → Option Labels → List ℕ → Result Made AsmFault
line_of at labels line = do
  text ← checked_line line
  statement_of at labels (parts_of text).statement
