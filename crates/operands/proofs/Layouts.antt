-- The words of the formats, put together from their fields.
use Rattle.std.proofs.Common.{ℕ, Bool, true, false, cond, ◌≡◌, ◌<◌, ◌+◌, ◌*◌, ◌/◌, ◌%◌, ◌^◌, arith, refl, sym, eqb}
use Rattle.std.proofs.lemmas.Bool.{eqb-true, eqb-false}
use Rattle.operands.specs.Fields.{opcode_of, rd_of, funct3_of, rs1_of, rs2_of, funct7_of, funct5_of, aq_of, rl_of, imm_i_of, imm_s_of, imm_b_of, imm_u_of, imm_j_of}

-- the R format: opcode, rd, funct3, rs1, rs2, funct7
abbrev pub r_word : ℕ → ℕ → ℕ → ℕ → ℕ → ℕ → ℕ
r_word o d f s t g = g * 2 ^ 25 + t * 2 ^ 20 + s * 2 ^ 15 + f * 2 ^ 12 + d * 2 ^ 7 + o

-- a bit, as a number
abbrev pub bit : Bool → ℕ
bit b = cond b 1 0

-- the R format with funct5, aq and rl in funct7's place: opcode, rd, funct3, rs1, rs2, funct5, aq, rl
abbrev pub amo_word : ℕ → ℕ → ℕ → ℕ → ℕ → ℕ → Bool → Bool → ℕ
amo_word o d f s t g a r = r_word o d f s t (g * 2 ^ 2 + bit a * 2 + bit r)

-- the I format: opcode, rd, funct3, rs1, the immediate
abbrev pub i_word : ℕ → ℕ → ℕ → ℕ → ℕ → ℕ
i_word o d f s i = i % 2 ^ 12 * 2 ^ 20 + s * 2 ^ 15 + f * 2 ^ 12 + d * 2 ^ 7 + o

-- the S format: opcode, funct3, rs1, rs2, the immediate
abbrev pub s_word : ℕ → ℕ → ℕ → ℕ → ℕ → ℕ
s_word o f s t i = i / 2 ^ 5 % 2 ^ 7 * 2 ^ 25 + t * 2 ^ 20 + s * 2 ^ 15 + f * 2 ^ 12 + i % 2 ^ 5 * 2 ^ 7 + o

-- the B format: opcode, funct3, rs1, rs2, the offset
abbrev pub b_word : ℕ → ℕ → ℕ → ℕ → ℕ → ℕ
b_word o f s t i = i / 2 ^ 12 % 2 * 2 ^ 31 + i / 2 ^ 5 % 2 ^ 6 * 2 ^ 25 + t * 2 ^ 20 + s * 2 ^ 15 + f * 2 ^ 12 + i / 2 % 2 ^ 4 * 2 ^ 8 + i / 2 ^ 11 % 2 * 2 ^ 7 + o

-- the U format: opcode, rd, the immediate
abbrev pub u_word : ℕ → ℕ → ℕ → ℕ
u_word o d i = i + d * 2 ^ 7 + o

-- the J format: opcode, rd, the offset
abbrev pub j_word : ℕ → ℕ → ℕ → ℕ
j_word o d i = i / 2 ^ 20 % 2 * 2 ^ 31 + i / 2 % 2 ^ 10 * 2 ^ 21 + i / 2 ^ 11 % 2 * 2 ^ 20 + i / 2 ^ 12 % 2 ^ 8 * 2 ^ 12 + d * 2 ^ 7 + o

-- a word is made of its fields, read as in the R format
pub r_word-fields : (w : ℕ) → r_word (opcode_of w) (rd_of w) (funct3_of w) (rs1_of w) (rs2_of w) (funct7_of w) ≡ w
r_word-fields w = omega arith

-- a bit of a word, as a number
bit_back : (n : ℕ) (b : Bool) → eqb (n % 2) 1 ≡ b → bit b ≡ n % 2
bit_back n true is = sym (eqb-true (n % 2) 1 is)
bit_back n false is = let no = eqb-false (n % 2) 1 is in omega arith

-- a word is made of its fields, read as those of an atomic operation
pub amo_word-fields : (w : ℕ) → amo_word (opcode_of w) (rd_of w) (funct3_of w) (rs1_of w) (rs2_of w) (funct5_of w) (aq_of w) (rl_of w) ≡ w
amo_word-fields w =
    let aq : bit (aq_of w) ≡ w / 2 ^ 26 % 2 = bit_back (w / 2 ^ 26) (aq_of w) refl in
    let rl : bit (rl_of w) ≡ w / 2 ^ 25 % 2 = bit_back (w / 2 ^ 25) (rl_of w) refl in
    rw (aq, rl) (omega arith)

-- a word is made of its fields, read as in the I format
pub i_word-fields : (w : ℕ) → w < 2 ^ 32 → i_word (opcode_of w) (rd_of w) (funct3_of w) (rs1_of w) (imm_i_of w) ≡ w
i_word-fields w h = omega arith

-- a word is made of its fields, read as in the S format
pub s_word-fields : (w : ℕ) → w < 2 ^ 32 → s_word (opcode_of w) (funct3_of w) (rs1_of w) (rs2_of w) (imm_s_of w) ≡ w
s_word-fields w h = omega arith

-- a word is made of its fields, read as in the B format
pub b_word-fields : (w : ℕ) → w < 2 ^ 32 → b_word (opcode_of w) (funct3_of w) (rs1_of w) (rs2_of w) (imm_b_of w) ≡ w
b_word-fields w h = omega arith

-- a word is made of its fields, read as in the U format
pub u_word-fields : (w : ℕ) → u_word (opcode_of w) (rd_of w) (imm_u_of w) ≡ w
u_word-fields w = omega arith

-- a word is made of its fields, read as in the J format
pub j_word-fields : (w : ℕ) → w < 2 ^ 32 → j_word (opcode_of w) (rd_of w) (imm_j_of w) ≡ w
j_word-fields w h = omega arith
