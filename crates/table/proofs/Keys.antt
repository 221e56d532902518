-- What a key says of the words that fit it, field by field.
use Rattle.std.proofs.Common.{◌≡◌, ℕ, true, ◌&&◌, bit_and, eqb}
use Rattle.std.proofs.lemmas.Bool.{eqb-true, and_parts}
use Rattle.operands.specs.Fields.{opcode_of, funct3_of, rs2_of, funct7_of, funct5_of}
use Rattle.table.specs.Table.{Key, fits}
use Rattle.table.specs.Table.Key.{Opcode, Funct3, Funct7, Funct5, Rs2, Word, Masked}

-- of an opcode
pub op_fits : (o w : ℕ) → fits (Opcode o) w ≡ true → opcode_of w ≡ o
op_fits o w fit = eqb-true (opcode_of w) o fit

pub record FitsF3 (o f w : ℕ) : Type 0 where
  pub opcode : opcode_of w ≡ o
  pub funct3 : funct3_of w ≡ f

-- of an opcode and a funct3
pub f3_fits : (o f w : ℕ) → fits (Funct3 o f) w ≡ true → FitsF3 o f w
f3_fits o f w fit =
    let both = and_parts (eqb (opcode_of w) o) (eqb (funct3_of w) f) fit in
    record { opcode = eqb-true (opcode_of w) o both.0; funct3 = eqb-true (funct3_of w) f both.1 }

pub record FitsF3F7 (o f g w : ℕ) : Type 0 where
  pub opcode : opcode_of w ≡ o
  pub funct3 : funct3_of w ≡ f
  pub funct7 : funct7_of w ≡ g

-- also of a funct7
pub f7_fits : (o f g w : ℕ) → fits (Funct7 o f g) w ≡ true → FitsF3F7 o f g w
f7_fits o f g w fit =
    let both = and_parts (eqb (opcode_of w) o) (eqb (funct3_of w) f && eqb (funct7_of w) g) fit in
    let rest = and_parts (eqb (funct3_of w) f) (eqb (funct7_of w) g) both.1 in
    record { opcode = eqb-true (opcode_of w) o both.0; funct3 = eqb-true (funct3_of w) f rest.0; funct7 = eqb-true (funct7_of w) g rest.1 }

pub record FitsF3F5 (o f g w : ℕ) : Type 0 where
  pub opcode : opcode_of w ≡ o
  pub funct3 : funct3_of w ≡ f
  pub funct5 : funct5_of w ≡ g

-- or a funct5
pub f5_fits : (o f g w : ℕ) → fits (Funct5 o f g) w ≡ true → FitsF3F5 o f g w
f5_fits o f g w fit =
    let both = and_parts (eqb (opcode_of w) o) (eqb (funct3_of w) f && eqb (funct5_of w) g) fit in
    let rest = and_parts (eqb (funct3_of w) f) (eqb (funct5_of w) g) both.1 in
    record { opcode = eqb-true (opcode_of w) o both.0; funct3 = eqb-true (funct3_of w) f rest.0; funct5 = eqb-true (funct5_of w) g rest.1 }

pub record FitsRs2 (o f g s w : ℕ) : Type 0 where
  pub funct5 : FitsF3F5 o f g w
  pub rs2 : rs2_of w ≡ s

-- with rs2 besides
pub rs2_fits : (o f g s w : ℕ) → fits (Rs2 o f g s) w ≡ true → FitsRs2 o f g s w
rs2_fits o f g s w fit =
    let both = and_parts (eqb (opcode_of w) o) (eqb (funct3_of w) f && (eqb (funct5_of w) g && eqb (rs2_of w) s)) fit in
    let rest = and_parts (eqb (funct3_of w) f) (eqb (funct5_of w) g && eqb (rs2_of w) s) both.1 in
    let last = and_parts (eqb (funct5_of w) g) (eqb (rs2_of w) s) rest.1 in
    record {
      funct5 = record { opcode = eqb-true (opcode_of w) o both.0; funct3 = eqb-true (funct3_of w) f rest.0; funct5 = eqb-true (funct5_of w) g last.0 };
      rs2 = eqb-true (rs2_of w) s last.1;
    }

-- of one word
pub word_fits : (v w : ℕ) → fits (Word v) w ≡ true → w ≡ v
word_fits v w fit = eqb-true w v (and_parts (eqb (opcode_of w) (opcode_of v)) (eqb w v) fit).1

-- of bits under a mask
pub masked_fits : (mask v w : ℕ) → fits (Masked mask v) w ≡ true → bit_and w mask ≡ v
masked_fits mask v w fit = eqb-true (bit_and w mask) v (and_parts (eqb (opcode_of w) (opcode_of v)) (eqb (bit_and w mask) v) fit).1

-- the opcode of a key's words
abbrev pub key_opcode : Key → ℕ
key_opcode (Opcode o) = o
key_opcode (Funct3 o f) = o
key_opcode (Funct7 o f g) = o
key_opcode (Funct5 o f g) = o
key_opcode (Rs2 o f g s) = o
key_opcode (Word v) = opcode_of v
key_opcode (Masked mask v) = opcode_of v

-- a word that fits a key has its opcode
pub opcode_fits : (k : Key) (w : ℕ) → fits k w ≡ true → opcode_of w ≡ key_opcode k
opcode_fits (Opcode o) w fit = op_fits o w fit
opcode_fits (Funct3 o f) w fit = (f3_fits o f w fit).opcode
opcode_fits (Funct7 o f g) w fit = (f7_fits o f g w fit).opcode
opcode_fits (Funct5 o f g) w fit = (f5_fits o f g w fit).opcode
opcode_fits (Rs2 o f g s) w fit = (rs2_fits o f g s w fit).funct5.opcode
opcode_fits (Word v) w fit = eqb-true (opcode_of w) (opcode_of v) (and_parts (eqb (opcode_of w) (opcode_of v)) (eqb w v) fit).0
opcode_fits (Masked mask v) w fit = eqb-true (opcode_of w) (opcode_of v) (and_parts (eqb (opcode_of w) (opcode_of v)) (eqb (bit_and w mask) v) fit).0
