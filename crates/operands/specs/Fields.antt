-- The fields of an instruction word, as whole numbers (RISC-V Unprivileged ISA 20191213, sections 2.2 and 2.3).
-- The number that stands in n bits of w from bit b up is w / 2 ^ b % 2 ^ n, and k * 2 ^ b puts a number there.
use Rattle.std.specs.Prelude.{ℕ, Bool, ◌+◌, ◌-◌, ◌*◌, ◌/◌, ◌%◌, ◌^◌, ◌<◌, ◌==◌}

-- bits 6 to 0
abbrev pub opcode_of : ℕ → ℕ
opcode_of w = w % 2 ^ 7

-- bits 11 to 7
abbrev pub rd_of : ℕ → ℕ
rd_of w = w / 2 ^ 7 % 2 ^ 5

-- bits 14 to 12
abbrev pub funct3_of : ℕ → ℕ
funct3_of w = w / 2 ^ 12 % 2 ^ 3

-- bits 19 to 15
abbrev pub rs1_of : ℕ → ℕ
rs1_of w = w / 2 ^ 15 % 2 ^ 5

-- bits 24 to 20
abbrev pub rs2_of : ℕ → ℕ
rs2_of w = w / 2 ^ 20 % 2 ^ 5

-- bits 31 to 25
abbrev pub funct7_of : ℕ → ℕ
funct7_of w = w / 2 ^ 25

-- bits 31 to 27: an atomic operation has two bits, aq and rl, in the rest of funct7's place
abbrev pub funct5_of : ℕ → ℕ
funct5_of w = w / 2 ^ 27

-- bit 26
abbrev pub aq_of : ℕ → Bool
aq_of w = w / 2 ^ 26 % 2 == 1

-- bit 25
abbrev pub rl_of : ℕ → Bool
rl_of w = w / 2 ^ 25 % 2 == 1

-- bit 31 in each place from a bit up
abbrev pub sign_from : ℕ → ℕ → ℕ
sign_from bit w = w / 2 ^ 31 * (2 ^ 32 - 2 ^ bit)

-- bits 31 to 20, with the sign
abbrev pub imm_i_of : ℕ → ℕ
imm_i_of w = sign_from 12 w + w / 2 ^ 20

-- bits 31 to 25 and 11 to 7, with the sign
abbrev pub imm_s_of : ℕ → ℕ
imm_s_of w = sign_from 12 w + w / 2 ^ 25 * 2 ^ 5 + w / 2 ^ 7 % 2 ^ 5

-- bit 31 is bit 12 and the sign, bit 7 is bit 11, then bits 30 to 25 and 11 to 8
abbrev pub imm_b_of : ℕ → ℕ
imm_b_of w = sign_from 12 w + w / 2 ^ 7 % 2 * 2 ^ 11 + w / 2 ^ 25 % 2 ^ 6 * 2 ^ 5 + w / 2 ^ 8 % 2 ^ 4 * 2

-- bits 31 to 12
abbrev pub imm_u_of : ℕ → ℕ
imm_u_of w = w / 2 ^ 12 * 2 ^ 12

-- bit 31 is bit 20 and the sign, then bits 19 to 12, bit 20 as bit 11, and bits 30 to 21
abbrev pub imm_j_of : ℕ → ℕ
imm_j_of w = sign_from 20 w + w / 2 ^ 12 % 2 ^ 8 * 2 ^ 12 + w / 2 ^ 20 % 2 * 2 ^ 11 + w / 2 ^ 21 % 2 ^ 10 * 2

-- the bits of a fence beside its opcode and funct3: bits 31 to 15 above bits 11 to 7
abbrev pub fence_bits_of : ℕ → ℕ
fence_bits_of w = w / 2 ^ 15 * 2 ^ 5 + w / 2 ^ 7 % 2 ^ 5

-- a number of so many bits in two's complement, extended to 32 bits
abbrev pub IsSigned : ℕ → ℕ → Type 0
IsSigned bits i = (i + 2 ^ (bits - 1)) % 2 ^ 32 < 2 ^ bits
