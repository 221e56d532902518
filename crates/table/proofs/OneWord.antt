-- No two words are decoded to one instruction.
use Rattle.std.proofs.Common.{◌≡◌, ℕ, ◌<◌, ◌^◌, Bool, true, false, cond, List, [], ◌∷◌, Option, Some, refl, sym, ◌∙◌}
use Rattle.std.proofs.lemmas.Option.{same_Some}
use Rattle.operands.specs.Fields.{opcode_of, rd_of, rs1_of, rs2_of, aq_of, rl_of, imm_i_of, imm_s_of, imm_b_of, imm_u_of, imm_j_of, fence_bits_of}
use Rattle.table.specs.Table.{fits, key, instr, table, instr_in, decoded, branch_row, load_row, store_row, imm_row, shift_row, op_row}
use Rattle.table.specs.Atomics.{amo_row}
use Rattle.table.specs.Table.Key.{Opcode, Funct3, Funct7, Funct5, Rs2, Word, Masked}
use Rattle.table.specs.declared.instr.Row.{Row}
use Rattle.table.specs.declared.instr.Row.TheVariants as row
use Rattle.table.specs.declared.instr.Instr.{Instr}
use Rattle.operands.proofs.Layouts.{r_word, amo_word, i_word, s_word, b_word, u_word, j_word, r_word-fields, amo_word-fields, i_word-fields, s_word-fields, b_word-fields, u_word-fields, j_word-fields}
use Rattle.table.proofs.Encoding.{fence_word, encoded, fence_word-fields}
use Rattle.table.proofs.Keys.{op_fits, f3_fits, f7_fits, f5_fits, rs2_fits, word_fits, masked_fits, FitsF3, FitsF3F7, FitsF3F5, FitsRs2}
use Rattle.operands.proofs.Begin.{passing_fields, BeginFields}

-- a row's words are those of its instructions
abbrev pub IsBack : Row → Type 0
IsBack row = (w : ℕ) → w < 2 ^ 32 → fits (key row) w ≡ true → encoded (instr row w) ≡ w

u_row : (o w : ℕ) → w < 2 ^ 32 → fits (Opcode o) w ≡ true → u_word o (rd_of w) (imm_u_of w) ≡ w
u_row o w h fit = let e : opcode_of w ≡ o = op_fits o w fit in rw (← e) (u_word-fields w)

j_row : (o w : ℕ) → w < 2 ^ 32 → fits (Opcode o) w ≡ true → j_word o (rd_of w) (imm_j_of w) ≡ w
j_row o w h fit = let e : opcode_of w ≡ o = op_fits o w fit in rw (← e) (j_word-fields w h)

i_row : (o f w : ℕ) → w < 2 ^ 32 → fits (Funct3 o f) w ≡ true → i_word o (rd_of w) f (rs1_of w) (imm_i_of w) ≡ w
i_row o f w h fit = let e : FitsF3 o f w = f3_fits o f w fit in rw (← e.opcode, ← e.funct3) (i_word-fields w h)

s_row : (o f w : ℕ) → w < 2 ^ 32 → fits (Funct3 o f) w ≡ true → s_word o f (rs1_of w) (rs2_of w) (imm_s_of w) ≡ w
s_row o f w h fit = let e : FitsF3 o f w = f3_fits o f w fit in rw (← e.opcode, ← e.funct3) (s_word-fields w h)

b_row : (o f w : ℕ) → w < 2 ^ 32 → fits (Funct3 o f) w ≡ true → b_word o f (rs1_of w) (rs2_of w) (imm_b_of w) ≡ w
b_row o f w h fit = let e : FitsF3 o f w = f3_fits o f w fit in rw (← e.opcode, ← e.funct3) (b_word-fields w h)

r_row : (o f g w : ℕ) → w < 2 ^ 32 → fits (Funct7 o f g) w ≡ true → r_word o (rd_of w) f (rs1_of w) (rs2_of w) g ≡ w
r_row o f g w h fit = let e : FitsF3F7 o f g w = f7_fits o f g w fit in rw (← e.opcode, ← e.funct3, ← e.funct7) (r_word-fields w)

amo_word_row : (o f g w : ℕ) → w < 2 ^ 32 → fits (Funct5 o f g) w ≡ true → amo_word o (rd_of w) f (rs1_of w) (rs2_of w) g (aq_of w) (rl_of w) ≡ w
amo_word_row o f g w h fit = let e : FitsF3F5 o f g w = f5_fits o f g w fit in rw (← e.opcode, ← e.funct3, ← e.funct5) (amo_word-fields w)

rs2_row : (o f g s w : ℕ) → w < 2 ^ 32 → fits (Rs2 o f g s) w ≡ true → amo_word o (rd_of w) f (rs1_of w) s g (aq_of w) (rl_of w) ≡ w
rs2_row o f g s w h fit =
    let e : FitsRs2 o f g s w = rs2_fits o f g s w fit in
    rw (← e.funct5.opcode, ← e.funct5.funct3, ← e.funct5.funct5, ← e.rs2) (amo_word-fields w)

fence_row : (w : ℕ) → w < 2 ^ 32 → fits (Funct3 0x0f 0x0) w ≡ true → fence_word (fence_bits_of w) ≡ w
fence_row w h fit = let e : FitsF3 0x0f 0x0 w = f3_fits 0x0f 0x0 w fit in fence_word-fields w e.opcode e.funct3

word_row : (v w : ℕ) → w < 2 ^ 32 → fits (Word v) w ≡ true → v ≡ w
word_row v w h fit = sym (word_fits v w fit)

begin_row : (w : ℕ) → w < 2 ^ 32 → fits (Masked 0x01fff17f 0x0000000b) w ≡ true → b_word 0x0b 0x0 0 0 (imm_b_of w) ≡ w
begin_row w h fit = let e : BeginFields w = passing_fields w (masked_fits 0x01fff17f 0x0000000b w fit) in rw (e.opcode, e.funct3, e.rs1, e.rs2) at (b_word-fields w h)

is_back : (row : Row) → IsBack row
is_back row.Lui = u_row 0x37
is_back row.Auipc = u_row 0x17
is_back row.Jal = j_row 0x6f
is_back row.Jalr = i_row 0x67 0x0
is_back (row.Branch op) = b_row 0x63 (branch_row op).funct3
is_back (row.Load op) = i_row 0x03 (load_row op).funct3
is_back (row.Store op) = s_row 0x23 (store_row op).funct3
is_back (row.OpImm op) = i_row 0x13 (imm_row op).funct3
is_back (row.ShiftImm op) = r_row 0x13 (shift_row op).funct3 (shift_row op).funct7
is_back (row.Op op) = r_row 0x33 (op_row op).funct3 (op_row op).funct7
is_back (row.Amo op) = amo_word_row 0x2f 0x2 (amo_row op).funct5
is_back row.LoadReserved = rs2_row 0x2f 0x2 0x02 0x00
is_back row.StoreConditional = amo_word_row 0x2f 0x2 0x03
is_back row.Fence = fence_row
is_back row.Ecall = word_row 0x00000073
is_back row.Ebreak = word_row 0x00100073
is_back row.TBegin = begin_row
is_back row.TCommit = word_row 0x0000100b
is_back row.TAbort = word_row 0x0000200b

at_row : (row : Row) (w : ℕ) (i : Instr) (here : Bool) (found : Option Instr) → w < 2 ^ 32 → fits (key row) w ≡ here → (found ≡ Some i → encoded i ≡ w) → cond here (Some (instr row w)) found ≡ Some i → encoded i ≡ w
at_row row w i true found h fit later is = rw (← same_Some (instr row w) i is) (is_back row w h fit)
at_row row w i false found h fit later is = later is

in_rows : (rows : List Row) (w : ℕ) (i : Instr) → w < 2 ^ 32 → instr_in rows w ≡ Some i → encoded i ≡ w
in_rows [] w i h is = cc
in_rows (row ∷ rows) w i h is = at_row row w i (fits (key row) w) (instr_in rows w) h refl (in_rows rows w i h) is

-- what a word is decoded to has this word
pub encoded-decoded : (w : ℕ) (i : Instr) → w < 2 ^ 32 → decoded w ≡ Some i → encoded i ≡ w
unfolding decoded
encoded-decoded w i h found = in_rows table w i h found

-- two words of one instruction are the same
pub one_word : (v w : ℕ) (i : Instr) → v < 2 ^ 32 → w < 2 ^ 32 → decoded v ≡ Some i → decoded w ≡ Some i → v ≡ w
one_word v w i hv hw dv dw = sym (encoded-decoded v i hv dv) ∙ encoded-decoded w i hw dw
