-- Groups of instructions.
use Rattle.table.specs.declared.instr.Instr.{Instr}
use Rattle.table.specs.declared.instr.Instr.TheVariants.{Jal, Jalr, Branch, OpImm, ShiftImm, Op, Amo, LoadReserved, StoreConditional}

-- a jump or a branch
abbrev pub IsJump : Instr → Type 0
IsJump (Jal rd i) = Unit {0}
IsJump (Jalr rd rs1 i) = Unit {0}
IsJump (Branch op rs1 rs2 i) = Unit {0}
IsJump _ = ⊥

-- an operation on a register and an immediate or on two registers
abbrev pub IsOperation : Instr → Type 0
IsOperation (OpImm op rd rs1 i) = Unit {0}
IsOperation (ShiftImm op rd rs1 k) = Unit {0}
IsOperation (Op op rd rs1 rs2) = Unit {0}
IsOperation _ = ⊥

-- an atomic operation, LR or SC
abbrev pub IsAtomic : Instr → Type 0
IsAtomic (Amo op rd rs1 rs2 aq rl) = Unit {0}
IsAtomic (LoadReserved rd rs1 aq rl) = Unit {0}
IsAtomic (StoreConditional rd rs1 rs2 aq rl) = Unit {0}
IsAtomic _ = ⊥
