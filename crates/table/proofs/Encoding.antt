-- The word of an instruction, put together from its fields. It shows that an instruction has one word at most.
use Rattle.std.proofs.Common.{ℕ, ◌≡◌, ◌+◌, ◌*◌, ◌/◌, ◌%◌, ◌^◌, arith}
use Rattle.operands.specs.Fields.{opcode_of, funct3_of, fence_bits_of}
use Rattle.operands.proofs.Layouts.{r_word, amo_word, i_word, s_word, b_word, u_word, j_word}
use Rattle.table.specs.Table.{branch_row, load_row, store_row, imm_row, shift_row, op_row}
use Rattle.table.specs.Atomics.{amo_row}
use Rattle.table.specs.declared.instr.Instr.{Instr}
use Rattle.table.specs.declared.instr.Instr.TheVariants.{Lui, Auipc, Jal, Jalr, Branch, Load, Store, OpImm, ShiftImm, Op, Amo, LoadReserved, StoreConditional, Fence, Ecall, Ebreak, TBegin, TCommit, TAbort}

-- a fence's word, from its other bits
abbrev pub fence_word : ℕ → ℕ
fence_word r = r / 2 ^ 5 * 2 ^ 15 + r % 2 ^ 5 * 2 ^ 7 + 0x0f

-- the word of an instruction
abbrev pub encoded : Instr → ℕ
encoded (Lui d i) = u_word 0x37 d i
encoded (Auipc d i) = u_word 0x17 d i
encoded (Jal d i) = j_word 0x6f d i
encoded (Jalr d s i) = i_word 0x67 d 0x0 s i
encoded (Branch op s t i) = b_word 0x63 (branch_row op).funct3 s t i
encoded (Load op d s i) = i_word 0x03 d (load_row op).funct3 s i
encoded (Store op s t i) = s_word 0x23 (store_row op).funct3 s t i
encoded (OpImm op d s i) = i_word 0x13 d (imm_row op).funct3 s i
encoded (ShiftImm op d s k) = r_word 0x13 d (shift_row op).funct3 s k (shift_row op).funct7
encoded (Op op d s t) = r_word 0x33 d (op_row op).funct3 s t (op_row op).funct7
encoded (Amo op d s t a r) = amo_word 0x2f d 0x2 s t (amo_row op).funct5 a r
encoded (LoadReserved d s a r) = amo_word 0x2f d 0x2 s 0x00 0x02 a r
encoded (StoreConditional d s t a r) = amo_word 0x2f d 0x2 s t 0x03 a r
encoded (Fence r) = fence_word r
encoded Ecall = 0x00000073
encoded Ebreak = 0x00100073
encoded (TBegin i) = b_word 0x0b 0x0 0 0 i
encoded TCommit = 0x0000100b
encoded TAbort = 0x0000200b

-- a fence's word is made of them
pub fence_word-fields : (w : ℕ) → opcode_of w ≡ 0x0f → funct3_of w ≡ 0 → fence_word (fence_bits_of w) ≡ w
fence_word-fields w opcode funct3 = omega arith
