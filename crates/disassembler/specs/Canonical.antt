-- The canonical text of a word: from the shapes of operands, by the instruction, to the text of any word.
use Rattle.std.specs.Prelude.{ℕ, Bool, true, false, cond, ◌==◌, ◌/◌, ◌^◌, ◌++◌, List, [], ◌∷◌, Option, Some, None, codes, decimal}
use Rattle.std.specs.Fmt.{signed_decimal}
use Rattle.std.specs.Int.{w32, cast_signed}
use Rattle.std.specs.List.{concat}
use Rattle.texts.specs.Numerals.{hexadecimal}
use Rattle.operands.specs.Fields.{fence_bits_of}
use Rattle.table.specs.Table.{decoded, name_of}
use Rattle.table.specs.declared.instr.Instr.{Instr}
use Rattle.table.specs.declared.instr.Instr.TheVariants.{Lui, Auipc, Jal, Jalr, Branch, Load, Store, OpImm, ShiftImm, Op, Amo, LoadReserved, StoreConditional, Fence, Ecall, Ebreak, TBegin, TCommit, TAbort}
use Rattle.table.specs.declared.instr.Row.{Row}
use Rattle.table.specs.declared.instr.Row.TheVariants as row
use Rattle.disassembler.specs.Mnemonics.{register, order}

-- Numbers

-- a number of 32 bits in two's complement, as a decimal
unfoldable pub signed : ℕ → List ℕ
signed n = signed_decimal (cast_signed w32 n)

-- digits without the zeros in front; a last zero stays
abbrev pub trimmed : List ℕ → List ℕ
trimmed [] = []
trimmed (d ∷ []) = d ∷ []
trimmed (d ∷ e ∷ ds) = cond (d == 48) (trimmed (e ∷ ds)) (d ∷ e ∷ ds)

-- bits 31 to 12, as a hexadecimal number of no more digits than it needs
unfoldable pub upper : ℕ → List ℕ
upper n = codes "0x" ++ trimmed (hexadecimal (n / 2 ^ 12))

-- Shapes: a mnemonic, and operands

-- op a
abbrev pub one : List ℕ → List ℕ → List ℕ
one op a = concat (op ∷ codes " " ∷ a ∷ [])

-- op a, b
abbrev pub two : List ℕ → List ℕ → List ℕ → List ℕ
two op a b = concat (op ∷ codes " " ∷ a ∷ codes ", " ∷ b ∷ [])

-- op a, b, c
abbrev pub three : List ℕ → List ℕ → List ℕ → List ℕ → List ℕ
three op a b c = concat (op ∷ codes " " ∷ a ∷ codes ", " ∷ b ∷ codes ", " ∷ c ∷ [])

-- op a, offset(base)
abbrev pub offset : List ℕ → List ℕ → List ℕ → List ℕ → List ℕ
offset op a n base = concat (op ∷ codes " " ∷ a ∷ codes ", " ∷ n ∷ codes "(" ∷ base ∷ codes ")" ∷ [])

-- op a, (base)
abbrev pub indirect : List ℕ → List ℕ → List ℕ → List ℕ
indirect op a base = concat (op ∷ codes " " ∷ a ∷ codes ", (" ∷ base ∷ codes ")" ∷ [])

-- op a, b, (base)
abbrev pub atomic : List ℕ → List ℕ → List ℕ → List ℕ → List ℕ
atomic op a b base = concat (op ∷ codes " " ∷ a ∷ codes ", " ∷ b ∷ codes ", (" ∷ base ∷ codes ")" ∷ [])

-- the bits of the fence of all reads and writes before all after, the one that has a text
abbrev pub full_fence : ℕ
full_fence = fence_bits_of 0x0ff0000f

-- the mnemonic of a row with the bits aq and rl
abbrev pub ordered : Row → Bool → Bool → List ℕ
ordered row aq rl = name_of row ++ order aq rl

-- whether an instruction is an atomic operation, LR or SC
abbrev pub is_atomic : Instr → Bool
is_atomic (Amo op rd rs1 rs2 aq rl) = true
is_atomic (LoadReserved rd rs1 aq rl) = true
is_atomic (StoreConditional rd rs1 rs2 aq rl) = true
is_atomic i = false

-- the text of an instruction; any other fence has none
abbrev pub spelled : Instr → Option (List ℕ)
spelled (Lui rd i) = Some (two (name_of row.Lui) (register rd) (upper i))
spelled (Auipc rd i) = Some (two (name_of row.Auipc) (register rd) (upper i))
spelled (Jal rd i) = Some (two (name_of row.Jal) (register rd) (signed i))
spelled (Jalr rd rs1 i) = Some (offset (name_of row.Jalr) (register rd) (signed i) (register rs1))
spelled (Branch op rs1 rs2 i) = Some (three (name_of (row.Branch op)) (register rs1) (register rs2) (signed i))
spelled (Load op rd rs1 i) = Some (offset (name_of (row.Load op)) (register rd) (signed i) (register rs1))
spelled (Store op rs1 rs2 i) = Some (offset (name_of (row.Store op)) (register rs2) (signed i) (register rs1))
spelled (OpImm op rd rs1 i) = Some (three (name_of (row.OpImm op)) (register rd) (register rs1) (signed i))
spelled (ShiftImm op rd rs1 k) = Some (three (name_of (row.ShiftImm op)) (register rd) (register rs1) (decimal k))
spelled (Op op rd rs1 rs2) = Some (three (name_of (row.Op op)) (register rd) (register rs1) (register rs2))
spelled (Amo op rd rs1 rs2 aq rl) = Some (atomic (ordered (row.Amo op) aq rl) (register rd) (register rs2) (register rs1))
spelled (LoadReserved rd rs1 aq rl) = Some (indirect (ordered row.LoadReserved aq rl) (register rd) (register rs1))
spelled (StoreConditional rd rs1 rs2 aq rl) = Some (atomic (ordered row.StoreConditional aq rl) (register rd) (register rs2) (register rs1))
spelled (Fence bits) = cond (bits == full_fence) (Some (name_of row.Fence)) None
spelled Ecall = Some (name_of row.Ecall)
spelled Ebreak = Some (name_of row.Ebreak)
spelled (TBegin i) = Some (one (name_of row.TBegin) (signed i))
spelled TCommit = Some (name_of row.TCommit)
spelled TAbort = Some (name_of row.TAbort)

-- a word that has no other text
unfoldable pub plain : ℕ → List ℕ
plain w = concat (codes ".word 0x" ∷ hexadecimal w ∷ [])

abbrev pub spelled_if : Option Instr → Option (List ℕ)
spelled_if None = None
spelled_if (Some i) = spelled i

abbrev pub text_or : List ℕ → Option (List ℕ) → List ℕ
text_or text None = text
text_or text (Some spelling) = spelling

-- the text of a word: that of its instruction, if it has one
unfoldable pub canonical : ℕ → List ℕ
canonical w = text_or (plain w) (spelled_if (decoded w))
