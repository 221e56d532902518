-- The mask of TBEGIN: it lets through the words of custom-0 with no funct3 and no registers, and with an offset that is a multiple of 4.
use Rattle.std.proofs.Common.{◌≡◌, ℕ, ◌+◌, ◌*◌, ◌/◌, ◌%◌, ◌^◌, arith, lit<, bit_and, ◌∙◌, ap}
use Rattle.std.proofs.lemmas.Nat.{and_mask, and_block}
use Rattle.operands.specs.Fields.{opcode_of, funct3_of, rs1_of, rs2_of, imm_b_of}

-- what is left of a word under the mask
masked : (w : ℕ) → bit_and w 0x01fff17f ≡ w / 2 ^ 12 % 2 ^ 13 * 2 ^ 12 + w / 2 ^ 8 % 2 * 2 ^ 8 + w % 2 ^ 7
masked w =
    let high : bit_and (w / 2 ^ 12) 0x1fff ≡ w / 2 ^ 12 % 2 ^ 13 = and_mask (w / 2 ^ 12) 13 in
    let middle : bit_and (w % 2 ^ 12 / 2 ^ 8) 1 ≡ w % 2 ^ 12 / 2 ^ 8 % 2 = and_mask (w % 2 ^ 12 / 2 ^ 8) 1 in
    let low : bit_and (w % 2 ^ 8) 0x7f ≡ w % 2 ^ 8 % 2 ^ 7 = and_mask (w % 2 ^ 8) 7 in
    let cut : w ≡ w / 2 ^ 12 * 2 ^ 12 + w % 2 ^ 12 = omega arith in
    let cut-below : w % 2 ^ 12 ≡ w % 2 ^ 12 / 2 ^ 8 * 2 ^ 8 + w % 2 ^ 8 = omega arith in
    let parts : bit_and (w / 2 ^ 12 * 2 ^ 12 + w % 2 ^ 12) 0x01fff17f ≡ bit_and (w / 2 ^ 12) 0x1fff * 2 ^ 12 + bit_and (w % 2 ^ 12) 0x17f = and_block 12 (w / 2 ^ 12) 0x1fff (w % 2 ^ 12) 0x17f (omega arith) (lit< tt) in
    let parts-below : bit_and (w % 2 ^ 12 / 2 ^ 8 * 2 ^ 8 + w % 2 ^ 8) 0x17f ≡ bit_and (w % 2 ^ 12 / 2 ^ 8) 1 * 2 ^ 8 + bit_and (w % 2 ^ 8) 0x7f = and_block 8 (w % 2 ^ 12 / 2 ^ 8) 1 (w % 2 ^ 8) 0x7f (omega arith) (lit< tt) in
    let all : bit_and w 0x01fff17f ≡ bit_and (w / 2 ^ 12) 0x1fff * 2 ^ 12 + bit_and (w % 2 ^ 12) 0x17f = ap (λ x. bit_and x 0x01fff17f) cut ∙ parts in
    let below : bit_and (w % 2 ^ 12) 0x17f ≡ bit_and (w % 2 ^ 12 / 2 ^ 8) 1 * 2 ^ 8 + bit_and (w % 2 ^ 8) 0x7f = ap (λ x. bit_and x 0x17f) cut-below ∙ parts-below in
    omega arith

-- a word that passes has an offset that is a multiple of 4
pub offset_is_quarter : (w : ℕ) → bit_and w 0x01fff17f ≡ 0x0b → imm_b_of w % 4 ≡ 0
offset_is_quarter w pass = let m = masked w in omega arith

pub record BeginFields (w : ℕ) : Type 0 where
  pub opcode : opcode_of w ≡ 0x0b
  pub funct3 : funct3_of w ≡ 0
  pub rs1 : rs1_of w ≡ 0
  pub rs2 : rs2_of w ≡ 0

-- and no other operands
pub passing_fields : (w : ℕ) → bit_and w 0x01fff17f ≡ 0x0b → BeginFields w
passing_fields w pass = let m = masked w in record { opcode = omega arith; funct3 = omega arith; rs1 = omega arith; rs2 = omega arith }

-- a word with these fields passes
pub passes_mask : (w : ℕ) → opcode_of w ≡ 0x0b → funct3_of w ≡ 0 → rs1_of w ≡ 0 → rs2_of w ≡ 0 → imm_b_of w % 4 ≡ 0 → bit_and w 0x01fff17f ≡ 0x0b
passes_mask w opcode funct3 rs1 rs2 quarter = let m = masked w in omega arith
