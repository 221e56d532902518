-- Two words of a row don't share a text.
use Rattle.std.proofs.Common.{◌≡◌, ℕ, ◌<◌, ◌^◌, Bool, true, false, cond, List, ◌∷◌, ◌++◌, Some, None, refl, sym, ap, ◌∙◌, arith}
use Rattle.std.specs.Prelude.{decimal}
use Rattle.std.proofs.lemmas.Bool.{eqb-true}
use Rattle.std.proofs.lemmas.Fmt.{decimal_injective}
use Rattle.std.proofs.lemmas.List.{append_cancel_left}
use Rattle.std.proofs.lemmas.Option.{same_Some}
use Rattle.operands.specs.Fields.{rd_of, rs1_of, rs2_of, aq_of, rl_of, imm_i_of, imm_s_of, imm_b_of, imm_u_of, imm_j_of, fence_bits_of}
use Rattle.table.specs.declared.instr.Instr.TheVariants.{Fence, TBegin}
use Rattle.table.specs.Table.{name_of, instr}
use Rattle.table.specs.declared.instr.Row.{Row}
use Rattle.table.specs.declared.instr.Row.TheVariants as row
use Rattle.disassembler.specs.Mnemonics.{register, order}
use Rattle.disassembler.specs.Canonical.{signed, upper, two, three, offset, indirect, atomic, ordered, spelled, full_fence}
use Rattle.disassembler.proofs.Cutting.{Lacks, cut-same}
use Rattle.disassembler.proofs.Numerals.{signed-lacks, signed-same, upper-same}
use Rattle.disassembler.proofs.Rows.{mnemonic, mnemonic-lacks, order-same, register-same, register-comma, register-closing}
use Rattle.disassembler.proofs.Operands.{one-part, two-parts, three-parts, offset-parts, indirect-parts, atomic-parts}

rd-small : (w : ℕ) → rd_of w < 32
rd-small w = omega arith

rs1-small : (w : ℕ) → rs1_of w < 32
rs1-small w = omega arith

rs2-small : (w : ℕ) → rs2_of w < 32
rs2-small w = omega arith

imm_i-small : (w : ℕ) → w < 2 ^ 32 → imm_i_of w < 2 ^ 32
imm_i-small w h = omega arith

imm_s-small : (w : ℕ) → w < 2 ^ 32 → imm_s_of w < 2 ^ 32
imm_s-small w h = omega arith

imm_b-small : (w : ℕ) → w < 2 ^ 32 → imm_b_of w < 2 ^ 32
imm_b-small w h = omega arith

imm_j-small : (w : ℕ) → w < 2 ^ 32 → imm_j_of w < 2 ^ 32
imm_j-small w h = omega arith

-- the fields of two words, by the operands

upper-fields : (op : List ℕ) (v w : ℕ) → v < 2 ^ 32 → w < 2 ^ 32
    → two op (register (rd_of v)) (upper (imm_u_of v)) ≡ two op (register (rd_of w)) (upper (imm_u_of w))
    → (rd_of v ≡ rd_of w) × (imm_u_of v ≡ imm_u_of w)
upper-fields op v w hv hw same =
    let parts = two-parts op _ _ _ _ (register-comma (rd_of v) (rd-small v)) (register-comma (rd_of w) (rd-small w)) same in
    (register-same _ _ (rd-small v) (rd-small w) parts.0, upper-same (imm_u_of v) (imm_u_of w) (omega arith) (omega arith) (omega arith) (omega arith) parts.1)

record SameFields (a n b d m e : ℕ) : Type 0 where
  first : a ≡ d
  number : n ≡ m
  base : b ≡ e

-- a minus sign is no parenthesis
minus : (c : ℕ) → c ≡ 45 → c ≡ 40 → ⊥
minus c is other = omega arith

-- op a, n(b)
based-fields : (op : List ℕ) (a n b d m e : ℕ) → a < 32 → b < 32 → d < 32 → e < 32 → n < 2 ^ 32 → m < 2 ^ 32
    → offset op (register a) (signed n) (register b) ≡ offset op (register d) (signed m) (register e)
    → SameFields a n b d m e
based-fields op a n b d m e ha hb hd he hn hm same =
    let parts = offset-parts op _ _ _ _ _ _ (register-comma a ha) (register-comma d hd) (signed-lacks 40 n refl (minus 45 refl) hn) (signed-lacks 40 m refl (minus 45 refl) hm) (register-closing b hb) (register-closing e he) same in
    record { first = register-same a d ha hd parts.first; number = signed-same n m hn hm parts.second; base = register-same b e hb he parts.third }

-- op a, b, n
numbered-fields : (op : List ℕ) (a b n d e m : ℕ) → a < 32 → b < 32 → d < 32 → e < 32 → n < 2 ^ 32 → m < 2 ^ 32
    → three op (register a) (register b) (signed n) ≡ three op (register d) (register e) (signed m) → SameFields a n b d m e
numbered-fields op a b n d e m ha hb hd he hn hm same =
    let parts = three-parts op _ _ _ _ _ _ (register-comma a ha) (register-comma b hb) (register-comma d hd) (register-comma e he) same in
    record { first = register-same a d ha hd parts.first; number = signed-same n m hn hm parts.third; base = register-same b e hb he parts.second }

-- op a, b, k
shifted-fields : (op : List ℕ) (a b k d e j : ℕ) → a < 32 → b < 32 → d < 32 → e < 32 → k < 32 → j < 32
    → three op (register a) (register b) (decimal k) ≡ three op (register d) (register e) (decimal j)
    → SameFields a k b d j e
shifted-fields op a b k d e j ha hb hd he hk hj same =
    let parts = three-parts op _ _ _ _ _ _ (register-comma a ha) (register-comma b hb) (register-comma d hd) (register-comma e he) same in
    record { first = register-same a d ha hd parts.first; number = decimal_injective k j (omega arith) (omega arith) parts.third; base = register-same b e hb he parts.second }

-- op a, b, c
register-fields : (op : List ℕ) (a b c d e f : ℕ) → a < 32 → b < 32 → c < 32 → d < 32 → e < 32 → f < 32
    → three op (register a) (register b) (register c) ≡ three op (register d) (register e) (register f)
    → SameFields a c b d f e
register-fields op a b c d e f ha hb hc hd he hf same =
    let parts = three-parts op _ _ _ _ _ _ (register-comma a ha) (register-comma b hb) (register-comma d hd) (register-comma e he) same in
    record { first = register-same a d ha hd parts.first; number = register-same c f hc hf parts.third; base = register-same b e hb he parts.second }

-- op a, (b)
indirect-fields : (op : List ℕ) (a b d e : ℕ) → a < 32 → b < 32 → d < 32 → e < 32
    → indirect op (register a) (register b) ≡ indirect op (register d) (register e) → (a ≡ d) × (b ≡ e)
indirect-fields op a b d e ha hb hd he same =
    let parts = indirect-parts op _ _ _ _ (register-comma a ha) (register-comma d hd) (register-closing b hb) (register-closing e he) same in
    (register-same a d ha hd parts.0, register-same b e hb he parts.1)

-- op a, b, (c)
atomic-fields : (op : List ℕ) (a b c d e f : ℕ) → a < 32 → b < 32 → c < 32 → d < 32 → e < 32 → f < 32
    → atomic op (register a) (register b) (register c) ≡ atomic op (register d) (register e) (register f)
    → SameFields a c b d f e
atomic-fields op a b c d e f ha hb hc hd he hf same =
    let parts = atomic-parts op _ _ _ _ _ _ (register-comma a ha) (register-comma b hb) (register-comma d hd) (register-comma e he) (register-closing c hc) (register-closing f hf) same in
    record { first = register-same a d ha hd parts.first; number = register-same c f hc hf parts.third; base = register-same b e hb he parts.second }

-- the mnemonics of two words of a row that may have a suffix, by what two texts begin with
record SameOrder (row : Row) (v w : ℕ) : Type 0 where
  op : ordered row (aq_of v) (rl_of v) ≡ ordered row (aq_of w) (rl_of w)
  aq : aq_of v ≡ aq_of w
  rl : rl_of v ≡ rl_of w

orders : (row : Row) (v w : ℕ) (x y : List ℕ) → Lacks 32 (ordered row (aq_of v) (rl_of v)) → Lacks 32 (ordered row (aq_of w) (rl_of w))
    → ordered row (aq_of v) (rl_of v) ++ 32 ∷ x ≡ ordered row (aq_of w) (rl_of w) ++ 32 ∷ y → SameOrder row v w
orders row v w x y lv lw same =
    let op = (cut-same 32 (ordered row (aq_of v) (rl_of v)) (ordered row (aq_of w) (rl_of w)) x y lv lw same).0 in
    let bits = order-same (aq_of v) (rl_of v) (aq_of w) (rl_of w) (append_cancel_left (name_of row) (order (aq_of v) (rl_of v)) (order (aq_of w) (rl_of w)) op) in
    record { op = op; aq = bits.0; rl = bits.1 }

pub full : (b : Bool) (x t : List ℕ) → cond b (Some x) None ≡ Some t → b ≡ true
full true x t e = refl
full false x t e = absurd (cc)

-- two words of a row that share a text are one instruction
pub same-instr : (row : Row) (v w : ℕ) (t : List ℕ) → v < 2 ^ 32 → w < 2 ^ 32 → spelled (instr row v) ≡ Some t
    → spelled (instr row w) ≡ Some t → instr row v ≡ instr row w
same-instr row.Lui v w t hv hw ev ew = let e = upper-fields (name_of row.Lui) v w hv hw (same_Some _ _ (ev ∙ sym ew)) in cc (e.0, e.1)
same-instr row.Auipc v w t hv hw ev ew = let e = upper-fields (name_of row.Auipc) v w hv hw (same_Some _ _ (ev ∙ sym ew)) in cc (e.0, e.1)
same-instr row.Jal v w t hv hw ev ew =
    let parts = two-parts (name_of row.Jal) _ _ _ _ (register-comma (rd_of v) (rd-small v)) (register-comma (rd_of w) (rd-small w)) (same_Some _ _ (ev ∙ sym ew)) in
    let rd = register-same _ _ (rd-small v) (rd-small w) parts.0 in
    let imm = signed-same _ _ (imm_j-small v hv) (imm_j-small w hw) parts.1 in
    cc
same-instr row.Jalr v w t hv hw ev ew =
    let e = based-fields (name_of row.Jalr) _ _ _ _ _ _ (rd-small v) (rs1-small v) (rd-small w) (rs1-small w) (imm_i-small v hv) (imm_i-small w hw) (same_Some _ _ (ev ∙ sym ew)) in
    cc (e.first, e.number, e.base)
same-instr (row.Branch op) v w t hv hw ev ew =
    let e = numbered-fields (name_of (row.Branch op)) _ _ _ _ _ _ (rs1-small v) (rs2-small v) (rs1-small w) (rs2-small w) (imm_b-small v hv) (imm_b-small w hw) (same_Some _ _ (ev ∙ sym ew)) in
    cc (e.first, e.number, e.base)
same-instr (row.Load op) v w t hv hw ev ew =
    let e = based-fields (name_of (row.Load op)) _ _ _ _ _ _ (rd-small v) (rs1-small v) (rd-small w) (rs1-small w) (imm_i-small v hv) (imm_i-small w hw) (same_Some _ _ (ev ∙ sym ew)) in
    cc (e.first, e.number, e.base)
same-instr (row.Store op) v w t hv hw ev ew =
    let e = based-fields (name_of (row.Store op)) _ _ _ _ _ _ (rs2-small v) (rs1-small v) (rs2-small w) (rs1-small w) (imm_s-small v hv) (imm_s-small w hw) (same_Some _ _ (ev ∙ sym ew)) in
    cc (e.first, e.number, e.base)
same-instr (row.OpImm op) v w t hv hw ev ew =
    let e = numbered-fields (name_of (row.OpImm op)) _ _ _ _ _ _ (rd-small v) (rs1-small v) (rd-small w) (rs1-small w) (imm_i-small v hv) (imm_i-small w hw) (same_Some _ _ (ev ∙ sym ew)) in
    cc (e.first, e.number, e.base)
same-instr (row.ShiftImm op) v w t hv hw ev ew =
    let e = shifted-fields (name_of (row.ShiftImm op)) _ _ _ _ _ _ (rd-small v) (rs1-small v) (rd-small w) (rs1-small w) (rs2-small v) (rs2-small w) (same_Some _ _ (ev ∙ sym ew)) in
    cc (e.first, e.number, e.base)
same-instr (row.Op op) v w t hv hw ev ew =
    let e = register-fields (name_of (row.Op op)) _ _ _ _ _ _ (rd-small v) (rs1-small v) (rs2-small v) (rd-small w) (rs1-small w) (rs2-small w) (same_Some _ _ (ev ∙ sym ew)) in
    cc (e.first, e.number, e.base)
same-instr (row.Amo op) v w t hv hw ev ew =
    let same = same_Some _ _ (ev ∙ sym ew) in
    let bits = orders (row.Amo op) v w _ _ (mnemonic-lacks (row.Amo op) v) (mnemonic-lacks (row.Amo op) w) same in
    let e = atomic-fields (mnemonic (row.Amo op) v) _ _ _ _ _ _ (rd-small v) (rs2-small v) (rs1-small v) (rd-small w) (rs2-small w) (rs1-small w) (same ∙ ap (λ m. atomic m (register (rd_of w)) (register (rs2_of w)) (register (rs1_of w))) (sym bits.op)) in
    cc (e.first, e.number, e.base, bits.aq, bits.rl)
same-instr row.LoadReserved v w t hv hw ev ew =
    let same = same_Some _ _ (ev ∙ sym ew) in
    let bits = orders row.LoadReserved v w _ _ (mnemonic-lacks row.LoadReserved v) (mnemonic-lacks row.LoadReserved w) same in
    let e = indirect-fields (mnemonic row.LoadReserved v) _ _ _ _ (rd-small v) (rs1-small v) (rd-small w) (rs1-small w) (same ∙ ap (λ m. indirect m (register (rd_of w)) (register (rs1_of w))) (sym bits.op)) in
    cc (e.0, e.1, bits.aq, bits.rl)
same-instr row.StoreConditional v w t hv hw ev ew =
    let same = same_Some _ _ (ev ∙ sym ew) in
    let bits = orders row.StoreConditional v w _ _ (mnemonic-lacks row.StoreConditional v) (mnemonic-lacks row.StoreConditional w) same in
    let e = atomic-fields (mnemonic row.StoreConditional v) _ _ _ _ _ _ (rd-small v) (rs2-small v) (rs1-small v) (rd-small w) (rs2-small w) (rs1-small w) (same ∙ ap (λ m. atomic m (register (rd_of w)) (register (rs2_of w)) (register (rs1_of w))) (sym bits.op)) in
    cc (e.first, e.number, e.base, bits.aq, bits.rl)
same-instr row.Fence v w t hv hw ev ew =
    ap (λ bits. Fence bits) (eqb-true (fence_bits_of v) full_fence (full _ _ t ev) ∙ sym (eqb-true (fence_bits_of w) full_fence (full _ _ t ew)))
same-instr row.Ecall v w t hv hw ev ew = refl
same-instr row.Ebreak v w t hv hw ev ew = refl
same-instr row.TBegin v w t hv hw ev ew =
    ap (λ n. TBegin n) (signed-same (imm_b_of v) (imm_b_of w) (imm_b-small v hv) (imm_b-small w hw) (one-part (name_of row.TBegin) _ _ (same_Some _ _ (ev ∙ sym ew))))
same-instr row.TCommit v w t hv hw ev ew = refl
same-instr row.TAbort v w t hv hw ev ew = refl
