-- The text of an instruction is read back as that instruction, row by row of the instruction table.
use Rattle.std.proofs.Common.{◌≡◌, ℕ, ◌+◌, ◌%◌, ◌^◌, ◌<◌, ◌≤◌, Bool, true, false, not, ◌&&◌, nat_le, List, [], ◌∷◌, ◌++◌, length, Option, Some, option_map, Result, Ok, refl, sym, ap, ◌∙◌, arith, append-nil}
use Rattle.std.specs.Prelude.{decimal}
use Rattle.std.specs.List.{list_all}
use Rattle.std.proofs.lemmas.Bool.{and_parts, not-true, leb-true, eqb-true}
use Rattle.std.proofs.lemmas.Option.{same_Some}
use Rattle.operands.specs.Fields.{rd_of, rs1_of, rs2_of, aq_of, rl_of, imm_i_of, imm_s_of, imm_b_of, imm_u_of, imm_j_of, fence_bits_of}
use Rattle.operands.proofs.Begin.{offset_is_quarter}
use Rattle.table.specs.declared.instr.Instr.{Instr}
use Rattle.table.specs.declared.instr.Instr.TheVariants as instrs
use Rattle.table.specs.declared.instr.BranchOp.{BranchOp}
use Rattle.table.specs.declared.instr.LoadOp.{LoadOp}
use Rattle.table.specs.declared.instr.StoreOp.{StoreOp}
use Rattle.table.specs.declared.instr.ImmOp.{ImmOp}
use Rattle.table.specs.declared.instr.ShiftOp.{ShiftOp}
use Rattle.table.specs.declared.instr.AluOp.{AluOp}
use Rattle.table.specs.declared.instr.AmoOp.{AmoOp}
use Rattle.table.specs.declared.instr.BranchOp.TheVariants as branch
use Rattle.table.specs.declared.instr.LoadOp.TheVariants as load
use Rattle.table.specs.declared.instr.StoreOp.TheVariants as store
use Rattle.table.specs.declared.instr.ImmOp.TheVariants as imm
use Rattle.table.specs.declared.instr.ShiftOp.TheVariants as shift
use Rattle.table.specs.declared.instr.AluOp.TheVariants as alu
use Rattle.table.specs.declared.instr.AmoOp.TheVariants as amo
use Rattle.table.specs.Table.{name_of, row_named, fits, key, instr}
use Rattle.table.specs.declared.instr.Row.{Row}
use Rattle.table.specs.declared.instr.Row.TheVariants as row
use Rattle.table.proofs.Keys.{masked_fits}
use Rattle.disassembler.specs.Mnemonics.{register as register_text}
use Rattle.disassembler.specs.Canonical.{signed, upper as upper_text, one as text_one, two as text_two, three as text_three, ordered, spelled, full_fence}
use Rattle.disassembler.proofs.Rows.{mnemonic}
use Rattle.disassembler.proofs.Apart.{full}
use Rattle.disassembler.proofs.Differing.{fence-text}
use Rattle.statements.specs.declared.fault.AsmFault.{AsmFault}
use Rattle.statements.specs.declared.fault.AsmFault.TheVariants.{Directive}
use Rattle.statements.specs.declared.place.Place.{Place}
use Rattle.statements.specs.declared.place.Section.TheVariants.{Text}
use Rattle.statements.specs.Cutting.{is_empty}
use Rattle.statements.specs.Operands.{guarded}
use Rattle.statements.specs.Places.{Labels, find}
use Rattle.statements.specs.declared.form.Form.TheVariants as form
use Rattle.statements.specs.declared.form.Order.{Order}
use Rattle.statements.specs.Forms.{cut_order, form_named}
use Rattle.statements.specs.Instructions.{by_row}
use Rattle.statements.specs.Statements.{is_data, one, instruction_of, by_form, by_name, pc_of}
use Rattle.statements.specs.Statements.Made.{One}
use Rattle.statements.specs.Lines.{line_of}
use Rattle.statements.proofs.Round.Tokens.{is_solid, IsToken, IsBody, body_one, body_more}
use Rattle.statements.proofs.Round.Lines.{line_alone, line_followed}
use Rattle.statements.proofs.Round.Operands.{register_token, decimal_token, signed_token, upper_token, in_parentheses, based_token, indirect_token}
use Rattle.statements.proofs.Round.Instructions.{pair, triple, op_read, op_imm_read, shift_imm_read, load_read, store_read, jalr_read, amo_read, load_reserved_read, store_conditional_read, upper_of_read, branch_read, jal_read, tbegin_read}

-- Mnemonics

abbrev pub is_token : List ℕ → Bool
is_token t = list_all is_solid t && (not (is_empty t) && nat_le (length t) 20)

pub token_is : (t : List ℕ) → is_token t ≡ true → IsToken t
token_is t h =
    let a = and_parts (list_all is_solid t) (not (is_empty t) && nat_le (length t) 20) h in
    let b = and_parts (not (is_empty t)) (nat_le (length t) 20) a.1 in
    record { solid = a.0; some = not-true (is_empty t) b.0; short = leb-true (length t) 20 b.1 }

-- the order of a word of a row
abbrev order_of : Row → ℕ → Order
order_of (row.Amo op) w = record { aq = aq_of w; rl = rl_of w }
order_of row.LoadReserved w = record { aq = aq_of w; rl = rl_of w }
order_of row.StoreConditional w = record { aq = aq_of w; rl = rl_of w }
order_of row w = record { aq = false; rl = false }

-- what is computed of each mnemonic: it is a token, and names its row and order
abbrev IsNamed : List ℕ → Row → Order → Type 0
IsNamed op row order = (is_token op ≡ true) × (form_named op ≡ Some (form.Row row order))

branch-name : (op : BranchOp) → IsNamed (name_of (row.Branch op)) (row.Branch op) (record { aq = false; rl = false })
unfolding cut_order row_named form_named
branch-name branch.Eq = (refl, refl)
branch-name op = (refl, refl)

load-name : (op : LoadOp) → IsNamed (name_of (row.Load op)) (row.Load op) (record { aq = false; rl = false })
unfolding cut_order row_named form_named
load-name load.Byte = (refl, refl)
load-name op = (refl, refl)

store-name : (op : StoreOp) → IsNamed (name_of (row.Store op)) (row.Store op) (record { aq = false; rl = false })
unfolding cut_order row_named form_named
store-name store.Byte = (refl, refl)
store-name op = (refl, refl)

imm-name : (op : ImmOp) → IsNamed (name_of (row.OpImm op)) (row.OpImm op) (record { aq = false; rl = false })
unfolding cut_order row_named form_named
imm-name imm.Add = (refl, refl)
imm-name op = (refl, refl)

shift-name : (op : ShiftOp) → IsNamed (name_of (row.ShiftImm op)) (row.ShiftImm op) (record { aq = false; rl = false })
unfolding cut_order row_named form_named
shift-name shift.Sll = (refl, refl)
shift-name op = (refl, refl)

op-name : (op : AluOp) → IsNamed (name_of (row.Op op)) (row.Op op) (record { aq = false; rl = false })
unfolding cut_order row_named form_named
op-name alu.Add = (refl, refl)
op-name op = (refl, refl)

amo-name : (op : AmoOp) (aq rl : Bool) → IsNamed (ordered (row.Amo op) aq rl) (row.Amo op) (record { aq = aq; rl = rl })
unfolding cut_order row_named form_named
amo-name amo.Add false false = (refl, refl)
amo-name op false false = (refl, refl)
amo-name amo.Add true false = (refl, refl)
amo-name op true false = (refl, refl)
amo-name amo.Add false true = (refl, refl)
amo-name op false true = (refl, refl)
amo-name amo.Add true true = (refl, refl)
amo-name op true true = (refl, refl)

reserved-name : (aq rl : Bool) → IsNamed (ordered row.LoadReserved aq rl) row.LoadReserved (record { aq = aq; rl = rl })
unfolding cut_order row_named form_named
reserved-name false false = (refl, refl)
reserved-name true false = (refl, refl)
reserved-name false true = (refl, refl)
reserved-name true true = (refl, refl)

conditional-name : (aq rl : Bool) → IsNamed (ordered row.StoreConditional aq rl) row.StoreConditional (record { aq = aq; rl = rl })
unfolding cut_order row_named form_named
conditional-name false false = (refl, refl)
conditional-name true false = (refl, refl)
conditional-name false true = (refl, refl)
conditional-name true true = (refl, refl)

row-name : (row : Row) (w : ℕ) → IsNamed (mnemonic row w) row (order_of row w)
unfolding cut_order row_named form_named
row-name (row.Branch op) w = branch-name op
row-name (row.Load op) w = load-name op
row-name (row.Store op) w = store-name op
row-name (row.OpImm op) w = imm-name op
row-name (row.ShiftImm op) w = shift-name op
row-name (row.Op op) w = op-name op
row-name (row.Amo op) w = amo-name op (aq_of w) (rl_of w)
row-name row.LoadReserved w = reserved-name (aq_of w) (rl_of w)
row-name row.StoreConditional w = conditional-name (aq_of w) (rl_of w)
row-name row w = (refl, refl)

-- Lines

module _ (at : Place) (labels : Option Labels) (text : at.section ≡ Text) where
  -- an instruction stands in text
  made_one : (r : Result Instr AsmFault) (i : Instr) → r ≡ Ok i → guarded (not (is_data at.section)) Directive (one r) ≡ Ok (One i)
  made_one r i is = ap (λ s. guarded (not (is_data s)) Directive (one r)) text ∙ ap one is

  followed : (n : ℕ) (row : Row) (w : ℕ) (rest t : List ℕ) (i : Instr) → IsBody n rest → n ≤ 200 → mnemonic row w ++ 32 ∷ rest ≡ t
      → by_form (form.Row row (order_of row w)) at labels rest ≡ Ok (One i) → line_of at labels t ≡ Ok (One i)
  followed n row w rest t i body few same makes =
      let name = row-name row w in
      ap (line_of at labels) (sym same) ∙ line_followed n (mnemonic row w) rest at labels (token_is (mnemonic row w) name.0) body few
      ∙ ap (λ o. by_name o (mnemonic row w) at labels rest) name.1 ∙ makes

  alone_line : (row : Row) (w : ℕ) (t : List ℕ) (i : Instr) → mnemonic row w ≡ t → by_form (form.Row row (order_of row w)) at labels [] ≡ Ok (One i)
      → line_of at labels t ≡ Ok (One i)
  alone_line row w t i same makes =
      let name = row-name row w in
      ap (line_of at labels) (sym same) ∙ line_alone (mnemonic row w) at labels (token_is (mnemonic row w) name.0)
      ∙ ap (λ o. by_name o (mnemonic row w) at labels []) name.1 ∙ makes

  with_pair : (row : Row) (w : ℕ) (a b t : List ℕ) (i : Instr) → IsToken a → IsToken b → mnemonic row w ++ 32 ∷ pair a b ≡ t
      → by_form (form.Row row (order_of row w)) at labels (pair a b) ≡ Ok (One i) → line_of at labels t ≡ Ok (One i)
  with_pair row w a b t i ha hb same makes = followed 42 row w (pair a b) t i (body_more 20 a b ha (body_one b hb)) (omega arith) same makes

  with_triple : (row : Row) (w : ℕ) (a b c t : List ℕ) (i : Instr) → IsToken a → IsToken b → IsToken c → mnemonic row w ++ 32 ∷ triple a b c ≡ t
      → by_form (form.Row row (order_of row w)) at labels (triple a b c) ≡ Ok (One i) → line_of at labels t ≡ Ok (One i)
  with_triple row w a b c t i ha hb hc same makes =
      followed 64 row w (triple a b c) t i (body_more 42 a (pair b c) ha (body_more 20 b c hb (body_one c hc))) (omega arith) same makes

-- Shapes

spelled_one : (op a t : List ℕ) → text_one op a ≡ t → op ++ 32 ∷ a ≡ t
spelled_one op a t same = ap (λ l. op ++ 32 ∷ l) (sym (append-nil a)) ∙ same

spelled_two : (op a b t : List ℕ) → text_two op a b ≡ t → op ++ 32 ∷ pair a b ≡ t
spelled_two op a b t same = ap (λ l. op ++ 32 ∷ (a ++ 44 ∷ 32 ∷ l)) (sym (append-nil b)) ∙ same

spelled_three : (op a b c t : List ℕ) → text_three op a b c ≡ t → op ++ 32 ∷ triple a b c ≡ t
spelled_three op a b c t same = ap (λ l. op ++ 32 ∷ (a ++ 44 ∷ 32 ∷ (b ++ 44 ∷ 32 ∷ l))) (sym (append-nil c)) ∙ same

-- Fields

rd-small : (w : ℕ) → rd_of w < 32
rd-small w = omega arith

rs1-small : (w : ℕ) → rs1_of w < 32
rs1-small w = omega arith

rs2-small : (w : ℕ) → rs2_of w < 32
rs2-small w = omega arith

record IsOffset (bits n : ℕ) : Type 0 where
  small : n < 2 ^ 32
  within : (n + 2 ^ bits) % 2 ^ 32 < 2 ^ (bits + 1)

imm_i : (w : ℕ) → w < 2 ^ 32 → IsOffset 11 (imm_i_of w)
imm_i w h = record { small = omega arith; within = omega arith }

imm_s : (w : ℕ) → w < 2 ^ 32 → IsOffset 11 (imm_s_of w)
imm_s w h = record { small = omega arith; within = omega arith }

imm_b : (w : ℕ) → w < 2 ^ 32 → IsOffset 12 (imm_b_of w)
imm_b w h = record { small = omega arith; within = omega arith }

imm_j : (w : ℕ) → w < 2 ^ 32 → IsOffset 20 (imm_j_of w)
imm_j w h = record { small = omega arith; within = omega arith }

-- Rows

pub row_is_read : (row : Row) (w : ℕ) (t : List ℕ) (at : Place) (labels : Option Labels) → w < 2 ^ 32 → fits (key row) w ≡ true → at.section ≡ Text
    → spelled (instr row w) ≡ Some t → line_of at labels t ≡ Ok (One (instr row w))
unfolding instruction_of by_row
row_is_read row.Lui w t at labels h fit text e =
    with_pair at labels text row.Lui w (register_text (rd_of w)) (upper_text (imm_u_of w)) t _ (register_token _ (rd-small w)) (upper_token _) (spelled_two (name_of row.Lui) _ _ t (same_Some _ t e))
    (made_one at labels text _ _ (upper_of_read instrs.Lui (rd_of w) (imm_u_of w) (rd-small w) (omega arith) (omega arith)))
row_is_read row.Auipc w t at labels h fit text e =
    with_pair at labels text row.Auipc w (register_text (rd_of w)) (upper_text (imm_u_of w)) t _ (register_token _ (rd-small w)) (upper_token _) (spelled_two (name_of row.Auipc) _ _ t (same_Some _ t e))
    (made_one at labels text _ _ (upper_of_read instrs.Auipc (rd_of w) (imm_u_of w) (rd-small w) (omega arith) (omega arith)))
row_is_read row.Jal w t at labels h fit text e =
    let n = imm_j w h in
    with_pair at labels text row.Jal w (register_text (rd_of w)) (signed (imm_j_of w)) t _ (register_token _ (rd-small w)) (signed_token _ n.small) (spelled_two (name_of row.Jal) _ _ t (same_Some _ t e))
    (made_one at labels text _ _ (jal_read (rd_of w) (imm_j_of w) (pc_of labels at) (option_map find labels) (rd-small w) n.small n.within (omega arith)))
row_is_read row.Jalr w t at labels h fit text e =
    let n = imm_i w h in
    with_pair at labels text row.Jalr w (register_text (rd_of w)) (in_parentheses (signed (imm_i_of w)) (register_text (rs1_of w))) t _ (register_token _ (rd-small w)) (based_token _ _ n.small (rs1-small w)) (same_Some _ t e)
    (made_one at labels text _ _ (jalr_read (rd_of w) (rs1_of w) (imm_i_of w) (rd-small w) (rs1-small w) n.small n.within))
row_is_read (row.Branch op) w t at labels h fit text e =
    let n = imm_b w h in
    with_triple at labels text (row.Branch op) w (register_text (rs1_of w)) (register_text (rs2_of w)) (signed (imm_b_of w)) t _ (register_token _ (rs1-small w)) (register_token _ (rs2-small w)) (signed_token _ n.small) (spelled_three (name_of (row.Branch op)) _ _ _ t (same_Some _ t e))
    (made_one at labels text _ _ (branch_read op (rs1_of w) (rs2_of w) (imm_b_of w) (pc_of labels at) (option_map find labels) (rs1-small w) (rs2-small w) n.small n.within (omega arith)))
row_is_read (row.Load op) w t at labels h fit text e =
    let n = imm_i w h in
    with_pair at labels text (row.Load op) w (register_text (rd_of w)) (in_parentheses (signed (imm_i_of w)) (register_text (rs1_of w))) t _ (register_token _ (rd-small w)) (based_token _ _ n.small (rs1-small w)) (same_Some _ t e)
    (made_one at labels text _ _ (load_read op (rd_of w) (rs1_of w) (imm_i_of w) (rd-small w) (rs1-small w) n.small n.within))
row_is_read (row.Store op) w t at labels h fit text e =
    let n = imm_s w h in
    with_pair at labels text (row.Store op) w (register_text (rs2_of w)) (in_parentheses (signed (imm_s_of w)) (register_text (rs1_of w))) t _ (register_token _ (rs2-small w)) (based_token _ _ n.small (rs1-small w)) (same_Some _ t e)
    (made_one at labels text _ _ (store_read op (rs2_of w) (rs1_of w) (imm_s_of w) (rs2-small w) (rs1-small w) n.small n.within))
row_is_read (row.OpImm op) w t at labels h fit text e =
    let n = imm_i w h in
    with_triple at labels text (row.OpImm op) w (register_text (rd_of w)) (register_text (rs1_of w)) (signed (imm_i_of w)) t _ (register_token _ (rd-small w)) (register_token _ (rs1-small w)) (signed_token _ n.small) (spelled_three (name_of (row.OpImm op)) _ _ _ t (same_Some _ t e))
    (made_one at labels text _ _ (op_imm_read op (rd_of w) (rs1_of w) (imm_i_of w) (rd-small w) (rs1-small w) n.small n.within))
row_is_read (row.ShiftImm op) w t at labels h fit text e =
    with_triple at labels text (row.ShiftImm op) w (register_text (rd_of w)) (register_text (rs1_of w)) (decimal (rs2_of w)) t _ (register_token _ (rd-small w)) (register_token _ (rs1-small w)) (decimal_token _ (omega arith)) (spelled_three (name_of (row.ShiftImm op)) _ _ _ t (same_Some _ t e))
    (made_one at labels text _ _ (shift_imm_read op (rd_of w) (rs1_of w) (rs2_of w) (rd-small w) (rs1-small w) (rs2-small w)))
row_is_read (row.Op op) w t at labels h fit text e =
    with_triple at labels text (row.Op op) w (register_text (rd_of w)) (register_text (rs1_of w)) (register_text (rs2_of w)) t _ (register_token _ (rd-small w)) (register_token _ (rs1-small w)) (register_token _ (rs2-small w)) (spelled_three (name_of (row.Op op)) _ _ _ t (same_Some _ t e))
    (made_one at labels text _ _ (op_read op (rd_of w) (rs1_of w) (rs2_of w) (rd-small w) (rs1-small w) (rs2-small w)))
row_is_read (row.Amo op) w t at labels h fit text e =
    with_triple at labels text (row.Amo op) w (register_text (rd_of w)) (register_text (rs2_of w)) (in_parentheses [] (register_text (rs1_of w))) t _ (register_token _ (rd-small w)) (register_token _ (rs2-small w)) (indirect_token _ (rs1-small w)) (same_Some _ t e)
    (made_one at labels text _ _ (amo_read op (order_of (row.Amo op) w) (rd_of w) (rs1_of w) (rs2_of w) (rd-small w) (rs1-small w) (rs2-small w)))
row_is_read row.LoadReserved w t at labels h fit text e =
    with_pair at labels text row.LoadReserved w (register_text (rd_of w)) (in_parentheses [] (register_text (rs1_of w))) t _ (register_token _ (rd-small w)) (indirect_token _ (rs1-small w)) (same_Some _ t e)
    (made_one at labels text _ _ (load_reserved_read (order_of row.LoadReserved w) (rd_of w) (rs1_of w) (rd-small w) (rs1-small w)))
row_is_read row.StoreConditional w t at labels h fit text e =
    with_triple at labels text row.StoreConditional w (register_text (rd_of w)) (register_text (rs2_of w)) (in_parentheses [] (register_text (rs1_of w))) t _ (register_token _ (rd-small w)) (register_token _ (rs2-small w)) (indirect_token _ (rs1-small w)) (same_Some _ t e)
    (made_one at labels text _ _ (store_conditional_read (order_of row.StoreConditional w) (rd_of w) (rs1_of w) (rs2_of w) (rd-small w) (rs1-small w) (rs2-small w)))
row_is_read row.Fence w t at labels h fit text e =
    alone_line at labels text row.Fence w t (instrs.Fence full_fence) (fence-text _ _ t e) (made_one at labels text _ _ refl)
    ∙ ap (λ bits. Ok (One (instrs.Fence bits))) (sym (eqb-true (fence_bits_of w) full_fence (full _ _ t e)))
row_is_read row.Ecall w t at labels h fit text e = alone_line at labels text row.Ecall w t _ (same_Some _ t e) (made_one at labels text _ _ refl)
row_is_read row.Ebreak w t at labels h fit text e = alone_line at labels text row.Ebreak w t _ (same_Some _ t e) (made_one at labels text _ _ refl)
row_is_read row.TBegin w t at labels h fit text e =
    let n = imm_b w h in
    followed at labels text 20 row.TBegin w (signed (imm_b_of w)) t _ (body_one _ (signed_token _ n.small)) (omega arith) (spelled_one (name_of row.TBegin) _ t (same_Some _ t e))
    (made_one at labels text _ _ (tbegin_read (imm_b_of w) (pc_of labels at) (option_map find labels) n.small n.within (offset_is_quarter w (masked_fits 0x01fff17f 0x0000000b w fit))))
row_is_read row.TCommit w t at labels h fit text e = alone_line at labels text row.TCommit w t _ (same_Some _ t e) (made_one at labels text _ _ refl)
row_is_read row.TAbort w t at labels h fit text e = alone_line at labels text row.TAbort w t _ (same_Some _ t e) (made_one at labels text _ _ refl)
