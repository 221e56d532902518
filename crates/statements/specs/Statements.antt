-- Statements: what each makes at its place.
use Rattle.std.specs.Prelude.{ℕ, ◌+◌, ◌-◌, ◌%◌, ◌^◌, ◌==◌, ◌&&◌, ◌||◌, not, if◌then◌else◌, nat_lt, Bool, true, false, List, [], ◌∷◌, ◌++◌, length, slice_index, Option, Some, None, Result, Ok, Err}
use Rattle.std.specs.List.{slice_split, list_all}
use Rattle.std.specs.Option.{option_map, option_map_or}
use Rattle.words.specs.declared.entry.Width.{Width}
use Rattle.words.specs.declared.entry.Width.TheVariants as width
use Rattle.words.specs.Bytes.{bytes_in}
use Rattle.table.specs.declared.instr.Instr.{Instr}
use Rattle.table.specs.declared.instr.Instr.TheVariants as instr
use Rattle.table.specs.declared.instr.ImmOp.TheVariants as imm
use Rattle.statements.specs.declared.fault.AsmFault.{AsmFault}
use Rattle.statements.specs.declared.fault.AsmFault.TheVariants.{Unknown, Operand, Range, Alignment, Label, Directive}
use Rattle.statements.specs.declared.form.Form.{Form}
use Rattle.statements.specs.declared.form.Form.TheVariants as form
use Rattle.statements.specs.declared.form.Directive as directives
use Rattle.statements.specs.declared.form.Directive.TheVariants as directive
use Rattle.statements.specs.declared.place.Place.{Place}
use Rattle.statements.specs.declared.place.Section.{Section}
use Rattle.statements.specs.declared.place.Section.TheVariants.{Text, Data}
use Rattle.statements.specs.declared.made.Words.{Words}
use Rattle.statements.specs.declared.made.Words.TheVariants as words
use Rattle.statements.specs.Cutting.{cut_word, is_name, trim}
use Rattle.statements.specs.Places.{Labels, address, find}
use Rattle.statements.specs.Forms.{form_named}
use Rattle.statements.specs.Operands.{◌>>=◌, checked, guarded, Find, register, immediate, is_lost, value}
use Rattle.statements.specs.Instructions.{two, last, by_row, branch_swapped_of, branch_zero_of, j_of, jr_of, pair_of, alone_of, alone_instr, upper_part, lower_part}

-- what a statement makes: nothing, one or two instructions, numbers of a width, or zeros; or the section that it enters
pub data Made : Type 0 where
  Nothing : Made
  Enter : Section → Made
  One : Instr → Made
  Two : Instr → Instr → Made
  Numbers : Width → List ℕ → Made
  Zeros : ℕ → Made

abbrev pub made : Words → Made
made words.Nothing = Nothing
made (words.Enter section) = Enter section
made (words.One i) = One i
made (words.Two i j) = Two i j
made (words.Numbers width values) = Numbers width values.items
made (words.Zeros count) = Zeros count

-- Numbers in a register

-- lui rd and addi rd, rd, by the two parts of a number
abbrev pub in_two : ℕ → ℕ → Made
in_two rd v = Two (instr.Lui rd (upper_part v)) (instr.OpImm imm.Add rd rd (lower_part v))

-- addi alone, where the number has 12 bits with its sign; lui alone, where its lowest 12 bits are 0; else both
abbrev pub in_register : ℕ → ℕ → Made
in_register rd v =
    if nat_lt ((v + 2048) % 2 ^ 32) 4096 then One (instr.OpImm imm.Add rd 0 v)
    else (if v % 4096 == 0 then One (instr.Lui rd v) else in_two rd v)

unfoldable pub li_of : List ℕ → Result Made AsmFault
li_of text = do
  x ← two text
  rd ← register x.0
  v ← immediate (2 ^ 31) (2 ^ 32 - 1) x.1
  Ok (in_register rd v)

unfoldable pub la_of : Find → List ℕ → Result Made AsmFault
la_of find text = do
  x ← two text
  rd ← register x.0
  v ← value find x.1
  Ok (in_two rd v)

-- Data

-- numbers of data: those of a width fit it, signed or unsigned, and a word may be an address
unfoldable pub datum : Find → Width → List ℕ → Result ℕ AsmFault
datum find width.Byte text = immediate 128 255 text
datum find width.Half text = immediate 32768 65535 text
datum find width.Word text = value find text

-- numbers behind others
abbrev pub read_data : Find → Width → List ℕ → List (List ℕ) → Result (List ℕ) AsmFault
read_data find width values [] = Ok values
read_data find width values (text ∷ texts) = datum find width (trim text) >>= λ v. read_data find width (values ++ v ∷ []) texts

-- the operands of a list of any length
abbrev pub operands : List ℕ → List (List ℕ)
operands text = slice_split (λ c. c == 44) text

-- whether all labels of some operands are there, as far as that is known
abbrev pub all_found : Find → List (List ℕ) → Bool
all_found None texts = true
all_found (Some find) texts = list_all (λ text. not (is_lost find (trim text))) texts

-- numbers of a width stand at a multiple of it
abbrev pub at_multiple : Width → Place → Result (List ℕ) AsmFault → Result Made AsmFault
at_multiple width at read = read >>= λ values. checked (at.offset % bytes_in width == 0) Alignment (Numbers width values)

unfoldable pub data_of : Width → Place → Find → List ℕ → Result Made AsmFault
data_of width at find text = guarded (all_found find (operands text)) Label (at_multiple width at (read_data find width [] (operands text)))

-- Directives

-- whether a directive stands in data alone
abbrev pub is_of_data : directives.Directive → Bool
is_of_data directive.Half = true
is_of_data directive.Byte = true
is_of_data directive.Space = true
is_of_data directive.Balign = true
is_of_data other = false

abbrev pub is_data : Section → Bool
is_data Text = false
is_data Data = true

unfoldable pub enter : Section → List ℕ → Result Made AsmFault
enter section text = checked (length text == 0) Operand (Enter section)

unfoldable pub globl : List ℕ → Result Made AsmFault
globl text = do
  name ← last text
  checked (is_name name) Operand Nothing

unfoldable pub space : List ℕ → Result Made AsmFault
space text = do
  operand ← last text
  n ← immediate 0 (2 ^ 32 - 1) operand
  Ok (Zeros n)

-- zeros up to a multiple of a power of two to 4096
unfoldable pub balign : Place → List ℕ → Result Made AsmFault
balign at text = do
  operand ← last text
  n ← immediate 0 4096 operand
  checked (nat_lt 0 n && (4096 % n == 0)) Range (Zeros ((n - at.offset % n) % n))

abbrev pub obeyed : directives.Directive → Place → Find → List ℕ → Result Made AsmFault
obeyed directive.Text at find text = enter Text text
obeyed directive.Data at find text = enter Data text
obeyed directive.Globl at find text = globl text
obeyed directive.Word at find text = data_of width.Word at find text
obeyed directive.Half at find text = data_of width.Half at find text
obeyed directive.Byte at find text = data_of width.Byte at find text
obeyed directive.Space at find text = space text
obeyed directive.Balign at find text = balign at text

unfoldable pub directive_of : directives.Directive → Place → Find → List ℕ → Result Made AsmFault
directive_of op at find text = guarded (not (is_of_data op) || is_data at.section) Directive (obeyed op at find text)

-- Statements

-- the one instruction that most forms make of their operands, at a pc
unfoldable pub instruction_of : Form → ℕ → Find → List ℕ → Result Instr AsmFault
instruction_of (form.Row row order) pc find text = by_row row order pc find text
instruction_of (form.BranchSwapped op) pc find text = branch_swapped_of op pc find text
instruction_of (form.BranchZero op) pc find text = branch_zero_of (λ s n. instr.Branch op s 0 n) pc find text
instruction_of (form.BranchFromZero op) pc find text = branch_zero_of (λ s n. instr.Branch op 0 s n) pc find text
instruction_of form.J pc find text = j_of pc find text
instruction_of form.Jr pc find text = jr_of text
instruction_of (form.Pair op) pc find text = pair_of op text
instruction_of (form.Alone op) pc find text = alone_of (alone_instr op) text
instruction_of form pc find text = Err Unknown

abbrev pub one : Result Instr AsmFault → Result Made AsmFault
one read = read >>= λ i. Ok (One i)

-- the address of a place, if the labels are known yet
abbrev pub pc_of : Option Labels → Place → ℕ
pc_of names at = option_map_or (λ n. address n.text_size at) names 0

-- what any form makes of its operands: an instruction stands in text
abbrev pub by_form : Form → Place → Option Labels → List ℕ → Result Made AsmFault
by_form (form.Directive op) at names text = directive_of op at (option_map find names) text
by_form form.Li at names text = guarded (not (is_data at.section)) Directive (li_of text)
by_form form.La at names text = guarded (not (is_data at.section)) Directive (la_of (option_map find names) text)
by_form form at names text = guarded (not (is_data at.section)) Directive (one (instruction_of form (pc_of names at) (option_map find names) text))

-- a mnemonic that is none: a directive begins with a dot
abbrev pub unknown : List ℕ → AsmFault
unknown name = if slice_index name 0 == 46 then Directive else Unknown

abbrev pub by_name : Option Form → List ℕ → Place → Option Labels → List ℕ → Result Made AsmFault
by_name None name at names text = Err (unknown name)
by_name (Some form) name at names text = by_form form at names text

-- A statement is a mnemonic, and behind blanks its operands. Without the labels, in the first pass, no pc is known either.
unfoldable pub statement_of : Place → Option Labels → List ℕ → Result Made AsmFault
statement_of at names text =
    let word = cut_word text in
    if length text == 0 then Ok Nothing else by_name (form_named word.0) word.0 at names word.1
