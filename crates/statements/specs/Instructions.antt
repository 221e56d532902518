-- Instructions: the operands of each form, and the instruction that it makes of them. Too few or too many operands are found first.
use Rattle.std.specs.Prelude.{ℕ, ◌+◌, ◌-◌, ◌*◌, ◌/◌, ◌%◌, ◌^◌, ◌==◌, List, [], ◌∷◌, Option, Some, None, Result, Ok, Err}
use Rattle.disassembler.specs.Canonical.{full_fence}
use Rattle.table.specs.declared.instr.Instr.{Instr}
use Rattle.table.specs.declared.instr.Instr.TheVariants as instr
use Rattle.table.specs.declared.instr.Row.{Row}
use Rattle.table.specs.declared.instr.Row.TheVariants as row
use Rattle.table.specs.declared.instr.BranchOp.{BranchOp}
use Rattle.table.specs.declared.instr.LoadOp.{LoadOp}
use Rattle.table.specs.declared.instr.StoreOp.{StoreOp}
use Rattle.table.specs.declared.instr.ImmOp.{ImmOp}
use Rattle.table.specs.declared.instr.ShiftOp.{ShiftOp}
use Rattle.table.specs.declared.instr.AluOp.{AluOp}
use Rattle.table.specs.declared.instr.AmoOp.{AmoOp}
use Rattle.table.specs.declared.instr.ImmOp.TheVariants as imm
use Rattle.table.specs.declared.instr.AluOp.TheVariants as alu
use Rattle.statements.specs.declared.fault.AsmFault.{AsmFault}
use Rattle.statements.specs.declared.fault.AsmFault.TheVariants.{Operand}
use Rattle.statements.specs.declared.form.Alone.{Alone}
use Rattle.statements.specs.declared.form.Alone.TheVariants as alone
use Rattle.statements.specs.declared.form.Order.{Order}
use Rattle.statements.specs.declared.form.Pair.{Pair}
use Rattle.statements.specs.declared.form.Pair.TheVariants as pair
use Rattle.statements.specs.Cutting.{cut, trim}
use Rattle.statements.specs.Operands.{◌>>=◌, Find, register, immediate, upper, based, indirect, offset}

-- Operands are parted by commas, and have blanks around them.

-- an operand, and what stands behind its comma
pub record First : Type 0 where
  pub operand : List ℕ
  pub others : List ℕ

abbrev pub before_comma : List ℕ → Option (List ℕ) → Result First AsmFault
before_comma front None = Err Operand
before_comma front (Some rest) = Ok (record { operand = trim front; others = rest })

abbrev pub without_comma : List ℕ → Option (List ℕ) → Result (List ℕ) AsmFault
without_comma front None = Ok (trim front)
without_comma front (Some rest) = Err Operand

unfoldable pub first : List ℕ → Result First AsmFault
first text = before_comma (cut (λ c. c == 44) text).front (cut (λ c. c == 44) text).rest

-- the only operand, or the last one
unfoldable pub last : List ℕ → Result (List ℕ) AsmFault
last text = without_comma (cut (λ c. c == 44) text).front (cut (λ c. c == 44) text).rest

unfoldable pub two : List ℕ → Result (List ℕ × List ℕ) AsmFault
two text = do
  a ← first text
  b ← last a.others
  Ok (a.operand, b)

pub record Three : Type 0 where
  pub first : List ℕ
  pub second : List ℕ
  pub third : List ℕ

unfoldable pub three : List ℕ → Result Three AsmFault
three text = do
  a ← first text
  b ← first a.others
  c ← last b.others
  Ok (record { first = a.operand; second = b.operand; third = c })

-- Forms

-- op rd, rs1, rs2
unfoldable pub op_of : AluOp → List ℕ → Result Instr AsmFault
op_of op text = do
  x ← three text
  rd ← register x.first
  rs1 ← register x.second
  rs2 ← register x.third
  Ok (instr.Op op rd rs1 rs2)

-- op rd, rs1, imm
unfoldable pub op_imm_of : ImmOp → List ℕ → Result Instr AsmFault
op_imm_of op text = do
  x ← three text
  rd ← register x.first
  rs1 ← register x.second
  n ← immediate 2048 2047 x.third
  Ok (instr.OpImm op rd rs1 n)

-- op rd, rs1, amount
unfoldable pub shift_imm_of : ShiftOp → List ℕ → Result Instr AsmFault
shift_imm_of op text = do
  x ← three text
  rd ← register x.first
  rs1 ← register x.second
  n ← immediate 0 31 x.third
  Ok (instr.ShiftImm op rd rs1 n)

-- op rd, imm(rs1)
unfoldable pub load_of : LoadOp → List ℕ → Result Instr AsmFault
load_of op text = do
  x ← two text
  rd ← register x.0
  at ← based x.1
  Ok (instr.Load op rd at.base at.imm)

-- op rs2, imm(rs1)
unfoldable pub store_of : StoreOp → List ℕ → Result Instr AsmFault
store_of op text = do
  x ← two text
  rs2 ← register x.0
  at ← based x.1
  Ok (instr.Store op at.base rs2 at.imm)

-- op rd, rs2, (rs1)
unfoldable pub amo_of : AmoOp → Order → List ℕ → Result Instr AsmFault
amo_of op order text = do
  x ← three text
  rd ← register x.first
  rs2 ← register x.second
  rs1 ← indirect x.third
  Ok (instr.Amo op rd rs1 rs2 order.aq order.rl)

-- op rd, (rs1)
unfoldable pub load_reserved_of : Order → List ℕ → Result Instr AsmFault
load_reserved_of order text = do
  x ← two text
  rd ← register x.0
  rs1 ← indirect x.1
  Ok (instr.LoadReserved rd rs1 order.aq order.rl)

-- op rd, rs2, (rs1)
unfoldable pub store_conditional_of : Order → List ℕ → Result Instr AsmFault
store_conditional_of order text = do
  x ← three text
  rd ← register x.first
  rs2 ← register x.second
  rs1 ← indirect x.third
  Ok (instr.StoreConditional rd rs1 rs2 order.aq order.rl)

-- lui rd, n and auipc rd, n: the upper 20 bits
unfoldable pub upper_of : (ℕ → ℕ → Instr) → List ℕ → Result Instr AsmFault
upper_of make text = do
  x ← two text
  rd ← register x.0
  n ← upper x.1
  Ok (make rd n)

-- op rs1, rs2, addr
unfoldable pub branch_of : BranchOp → ℕ → Find → List ℕ → Result Instr AsmFault
branch_of op pc find text = do
  x ← three text
  rs1 ← register x.first
  rs2 ← register x.second
  n ← offset 4096 4094 2 pc find x.third
  Ok (instr.Branch op rs1 rs2 n)

-- op rs2, rs1, addr
unfoldable pub branch_swapped_of : BranchOp → ℕ → Find → List ℕ → Result Instr AsmFault
branch_swapped_of op pc find text = do
  x ← three text
  rs2 ← register x.first
  rs1 ← register x.second
  n ← offset 4096 4094 2 pc find x.third
  Ok (instr.Branch op rs1 rs2 n)

-- op reg, addr, where the other register is zero
unfoldable pub branch_zero_of : (ℕ → ℕ → Instr) → ℕ → Find → List ℕ → Result Instr AsmFault
branch_zero_of make pc find text = do
  x ← two text
  reg ← register x.0
  n ← offset 4096 4094 2 pc find x.1
  Ok (make reg n)

-- jal rd, addr
unfoldable pub jal_of : ℕ → Find → List ℕ → Result Instr AsmFault
jal_of pc find text = do
  x ← two text
  rd ← register x.0
  n ← offset 1048576 1048574 2 pc find x.1
  Ok (instr.Jal rd n)

-- jalr rd, imm(rs1)
unfoldable pub jalr_of : List ℕ → Result Instr AsmFault
jalr_of text = do
  x ← two text
  rd ← register x.0
  at ← based x.1
  Ok (instr.Jalr rd at.base at.imm)

-- tbegin addr
unfoldable pub tbegin_of : ℕ → Find → List ℕ → Result Instr AsmFault
tbegin_of pc find text = do
  x ← last text
  n ← offset 4096 4094 4 pc find x
  Ok (instr.TBegin n)

-- j addr
unfoldable pub j_of : ℕ → Find → List ℕ → Result Instr AsmFault
j_of pc find text = do
  x ← last text
  n ← offset 1048576 1048574 2 pc find x
  Ok (instr.Jal 0 n)

-- jr rs1
unfoldable pub jr_of : List ℕ → Result Instr AsmFault
jr_of text = do
  x ← last text
  rs1 ← register x
  Ok (instr.Jalr 0 rs1 0)

-- op d, s
abbrev pub pair_instr : Pair → ℕ → ℕ → Instr
pair_instr pair.Mv d s = instr.OpImm imm.Add d s 0
pair_instr pair.Not d s = instr.OpImm imm.Xor d s 0xffffffff
pair_instr pair.Neg d s = instr.Op alu.Sub d 0 s
pair_instr pair.Seqz d s = instr.OpImm imm.Sltu d s 1
pair_instr pair.Snez d s = instr.Op alu.Sltu d 0 s
pair_instr pair.Sltz d s = instr.Op alu.Slt d s 0
pair_instr pair.Sgtz d s = instr.Op alu.Slt d 0 s

unfoldable pub pair_of : Pair → List ℕ → Result Instr AsmFault
pair_of pair text = do
  x ← two text
  d ← register x.0
  s ← register x.1
  Ok (pair_instr pair d s)

-- op
abbrev pub alone_of : Instr → List ℕ → Result Instr AsmFault
alone_of instr [] = Ok instr
alone_of instr (c ∷ cs) = Err Operand

abbrev pub alone_instr : Alone → Instr
alone_instr alone.Nop = instr.OpImm imm.Add 0 0 0
alone_instr alone.Ret = instr.Jalr 0 1 0

-- the instruction that a row, with an order, makes of its operands, at a pc
unfoldable pub by_row : Row → Order → ℕ → Find → List ℕ → Result Instr AsmFault
by_row row.Lui order pc find text = upper_of instr.Lui text
by_row row.Auipc order pc find text = upper_of instr.Auipc text
by_row row.Jal order pc find text = jal_of pc find text
by_row row.Jalr order pc find text = jalr_of text
by_row (row.Branch op) order pc find text = branch_of op pc find text
by_row (row.Load op) order pc find text = load_of op text
by_row (row.Store op) order pc find text = store_of op text
by_row (row.OpImm op) order pc find text = op_imm_of op text
by_row (row.ShiftImm op) order pc find text = shift_imm_of op text
by_row (row.Op op) order pc find text = op_of op text
by_row (row.Amo op) order pc find text = amo_of op order text
by_row row.LoadReserved order pc find text = load_reserved_of order text
by_row row.StoreConditional order pc find text = store_conditional_of order text
by_row row.Fence order pc find text = alone_of (instr.Fence full_fence) text
by_row row.Ecall order pc find text = alone_of instr.Ecall text
by_row row.Ebreak order pc find text = alone_of instr.Ebreak text
by_row row.TBegin order pc find text = tbegin_of pc find text
by_row row.TCommit order pc find text = alone_of instr.TCommit text
by_row row.TAbort order pc find text = alone_of instr.TAbort text

-- Numbers of 32 bits in a register: their upper 20 bits, and the signed number of 12 bits that is left

abbrev pub upper_part : ℕ → ℕ
upper_part v = (v + 2048) % 2 ^ 32 / 4096 * 4096

abbrev pub lower_part : ℕ → ℕ
lower_part v = (v + 2 ^ 32 - upper_part v) % 2 ^ 32
