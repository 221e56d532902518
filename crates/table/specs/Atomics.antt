-- The atomic operations on a word of memory (RISC-V Unprivileged ISA 20191213, chapter 8): the name of one, the field that selects it, and
-- what it puts in the place of the old word, by that word and rs2.
use Rattle.std.specs.Prelude.{ℕ, List, codes, min, max, ◌+◌, bit_and, bit_or, bit_xor}
use Rattle.table.specs.Numbers.{wrap, min_signed, max_signed}
use Rattle.table.specs.declared.instr.AmoOp.{AmoOp}
use Rattle.table.specs.declared.instr.AmoOp.TheVariants as amo

pub record AmoRow : Type 0 where
  pub name : List ℕ
  pub funct5 : ℕ
  pub value : ℕ → ℕ → ℕ

abbrev pub amo_row : AmoOp → AmoRow
amo_row amo.Add = record { name = codes "amoadd.w"; funct5 = 0x00; value = λ old b. wrap (old + b) }
amo_row amo.Swap = record { name = codes "amoswap.w"; funct5 = 0x01; value = λ old b. b }
amo_row amo.Xor = record { name = codes "amoxor.w"; funct5 = 0x04; value = λ old b. bit_xor old b }
amo_row amo.Or = record { name = codes "amoor.w"; funct5 = 0x08; value = λ old b. bit_or old b }
amo_row amo.And = record { name = codes "amoand.w"; funct5 = 0x0c; value = λ old b. bit_and old b }
amo_row amo.Min = record { name = codes "amomin.w"; funct5 = 0x10; value = λ old b. min_signed old b }
amo_row amo.Max = record { name = codes "amomax.w"; funct5 = 0x14; value = λ old b. max_signed old b }
amo_row amo.Minu = record { name = codes "amominu.w"; funct5 = 0x18; value = λ old b. min old b }
amo_row amo.Maxu = record { name = codes "amomaxu.w"; funct5 = 0x1c; value = λ old b. max old b }
