-- No two words share a text.
use Rattle.std.proofs.Common.{◌≡◌, ℕ, ◌<◌, ◌^◌, ◌⊎◌, inl, inr, Bool, true, false, cond, List, [], ◌∷◌, ◌++◌, Option, Some, None, codes, refl, sym, ap, ◌∙◌, append-nil}
use Rattle.std.proofs.lemmas.List.{append_cancel_left}
use Rattle.std.proofs.lemmas.Option.{same_Some}
use Rattle.table.specs.declared.instr.Instr.{Instr}
use Rattle.table.specs.Table.{row_named, fits, key, instr, table, instr_in, decoded}
use Rattle.table.specs.declared.instr.Row.{Row}
use Rattle.table.specs.declared.instr.Row.TheVariants as row
use Rattle.table.proofs.OneWord.{one_word}
use Rattle.texts.specs.Numerals.{hexadecimal}
use Rattle.texts.proofs.Digits.{hexadecimal-same}
use Rattle.disassembler.specs.Canonical.{spelled, spelled_if, text_or, plain, canonical}
use Rattle.disassembler.proofs.Cutting.{first_word, first_word-followed, first_word-alone}
use Rattle.disassembler.proofs.Rows.{mnemonic, stem, mnemonic-row, mnemonic-lacks, word-named}
use Rattle.disassembler.proofs.Apart.{same-instr}

-- a row with the text of its word
pub record Spelt (w : ℕ) : Type 0 where
  pub row : Row
  pub fit : fits (key row) w ≡ true
  pub is : decoded w ≡ Some (instr row w)
  pub text : spelled (instr row w) ≡ Some (canonical w)

-- a row that a word fits, with the instruction that the word is
record IsRowOf (w : ℕ) (i : Instr) : Type 0 where
  row : Row
  fit : fits (key row) w ≡ true
  is : instr row w ≡ i

at_row : (row : Row) (w : ℕ) (i : Instr) (here : Bool) (later : Option Instr) → fits (key row) w ≡ here → (later ≡ Some i → IsRowOf w i)
    → cond here (Some (instr row w)) later ≡ Some i → IsRowOf w i
at_row row w i true later fit rest found = record { row = row; fit = fit; is = same_Some _ _ found }
at_row row w i false later fit rest found = rest found

row-of : (rows : List Row) (w : ℕ) (i : Instr) → instr_in rows w ≡ Some i → IsRowOf w i
row-of [] w i found = absurd (cc)
row-of (row ∷ rows) w i found = at_row row w i (fits (key row) w) (instr_in rows w) refl (row-of rows w i) found

row-of_decoded : (w : ℕ) (i : Instr) → decoded w ≡ Some i → IsRowOf w i
unfolding decoded
row-of_decoded w i found = row-of table w i found

canonical-is : (w : ℕ) (o : Option Instr) (text : Option (List ℕ)) → decoded w ≡ o → spelled_if o ≡ text
    → canonical w ≡ text_or (plain w) text
unfolding canonical
canonical-is w o text found spelling = ap (λ i. text_or (plain w) (spelled_if i)) found ∙ ap (text_or (plain w)) spelling

by_text : (w : ℕ) (i : Instr) (text : Option (List ℕ)) → decoded w ≡ Some i → spelled i ≡ text → (canonical w ≡ plain w) ⊎ Spelt w
by_text w i None found text = inl (canonical-is w (Some i) None found text)
by_text w i (Some t) found text =
    let r = row-of_decoded w i found in
    let is : decoded w ≡ Some (instr r.row w) = found ∙ ap (λ j. Some j) (sym r.is) in
    let whole : canonical w ≡ t = canonical-is w (Some i) (Some t) found text in
    inr (record { row = r.row; fit = r.fit; is = is; text = ap spelled r.is ∙ text ∙ ap (λ l. Some l) (sym whole) })

by_instr : (w : ℕ) (o : Option Instr) → decoded w ≡ o → (canonical w ≡ plain w) ⊎ Spelt w
by_instr w None found = inl (canonical-is w None None found refl)
by_instr w (Some i) found = by_text w i (spelled i) found refl

-- a word has the text of its row, or no other than its digits
pub spelt-or_plain : (w : ℕ) → (canonical w ≡ plain w) ⊎ Spelt w
spelt-or_plain w = by_instr w (decoded w) refl

followed : (row : Row) (w : ℕ) (rest t : List ℕ) → mnemonic row w ++ 32 ∷ rest ≡ t → first_word t ≡ mnemonic row w
followed row w rest t e = ap first_word (sym e) ∙ first_word-followed (mnemonic row w) rest (mnemonic-lacks row w)

alone : (row : Row) (w : ℕ) (t : List ℕ) → mnemonic row w ≡ t → first_word t ≡ mnemonic row w
alone row w t e = ap first_word (sym e) ∙ first_word-alone (mnemonic row w) (mnemonic-lacks row w)

pub fence-text : (b : Bool) (x t : List ℕ) → cond b (Some x) None ≡ Some t → x ≡ t
fence-text true x t e = same_Some x t e
fence-text false x t e = absurd (cc)

-- a text of a row begins with its mnemonic
first_word-named : (row : Row) (w : ℕ) (t : List ℕ) → spelled (instr row w) ≡ Some t → first_word t ≡ mnemonic row w
first_word-named row.Lui w t e = followed row.Lui w _ t (same_Some _ t e)
first_word-named row.Auipc w t e = followed row.Auipc w _ t (same_Some _ t e)
first_word-named row.Jal w t e = followed row.Jal w _ t (same_Some _ t e)
first_word-named row.Jalr w t e = followed row.Jalr w _ t (same_Some _ t e)
first_word-named (row.Branch op) w t e = followed (row.Branch op) w _ t (same_Some _ t e)
first_word-named (row.Load op) w t e = followed (row.Load op) w _ t (same_Some _ t e)
first_word-named (row.Store op) w t e = followed (row.Store op) w _ t (same_Some _ t e)
first_word-named (row.OpImm op) w t e = followed (row.OpImm op) w _ t (same_Some _ t e)
first_word-named (row.ShiftImm op) w t e = followed (row.ShiftImm op) w _ t (same_Some _ t e)
first_word-named (row.Op op) w t e = followed (row.Op op) w _ t (same_Some _ t e)
first_word-named (row.Amo op) w t e = followed (row.Amo op) w _ t (same_Some _ t e)
first_word-named row.LoadReserved w t e = followed row.LoadReserved w _ t (same_Some _ t e)
first_word-named row.StoreConditional w t e = followed row.StoreConditional w _ t (same_Some _ t e)
first_word-named row.Fence w t e = alone row.Fence w t (fence-text _ _ t e)
first_word-named row.Ecall w t e = alone row.Ecall w t (same_Some _ t e)
first_word-named row.Ebreak w t e = alone row.Ebreak w t (same_Some _ t e)
first_word-named row.TBegin w t e = followed row.TBegin w _ t (same_Some _ t e)
first_word-named row.TCommit w t e = alone row.TCommit w t (same_Some _ t e)
first_word-named row.TAbort w t e = alone row.TAbort w t (same_Some _ t e)

first_word-plain : (w : ℕ) → first_word (plain w) ≡ codes ".word"
unfolding plain
first_word-plain w = refl

-- the row that the first word of a text tells
abbrev row_of : List ℕ → Option Row
row_of t = row_named (stem (first_word t))

spelt-row : (w : ℕ) (s : Spelt w) → row_of (canonical w) ≡ Some s.row
spelt-row w s = ap (λ op. row_named (stem op)) (first_word-named s.row w (canonical w) s.text) ∙ mnemonic-row s.row w

plain-row : (w : ℕ) → canonical w ≡ plain w → row_of (canonical w) ≡ None
plain-row w is = ap row_of is ∙ ap (λ op. row_named (stem op)) (first_word-plain w) ∙ word-named

plain-same : (v w : ℕ) → v < 2 ^ 32 → w < 2 ^ 32 → plain v ≡ plain w → v ≡ w
unfolding plain
plain-same v w hv hw same =
    let digits = append_cancel_left (codes ".word 0x") _ _ same in
    hexadecimal-same v w hv hw (sym (append-nil (hexadecimal v)) ∙ digits ∙ append-nil (hexadecimal w))

spelt-same : (v w : ℕ) → v < 2 ^ 32 → w < 2 ^ 32 → canonical v ≡ canonical w → Spelt v → Spelt w → v ≡ w
spelt-same v w hv hw same s t =
    let rows : s.row ≡ t.row = same_Some s.row t.row (sym (spelt-row v s) ∙ ap row_of same ∙ spelt-row w t) in
    let is : decoded w ≡ Some (instr s.row w) = t.is ∙ ap (λ (r : Row). Some (instr r w)) (sym rows) in
    let text : spelled (instr s.row w) ≡ Some (canonical v) = ap (λ (r : Row). spelled (instr r w)) rows ∙ t.text ∙ ap (λ l. Some l) (sym same) in
    let one : instr s.row v ≡ instr s.row w = same-instr s.row v w (canonical v) hv hw s.text text in
    one_word v w (instr s.row v) hv hw s.is (is ∙ ap (λ i. Some i) (sym one))

-- two words with one text are the same
pub texts_differ : (v w : ℕ) → v < 2 ^ 32 → w < 2 ^ 32 → canonical v ≡ canonical w → v ≡ w
texts_differ v w hv hw same = elim (spelt-or_plain v) [
  | inl pv ↦ elim (spelt-or_plain w) [
    | inl pw ↦ plain-same v w hv hw (sym pv ∙ same ∙ pw)
    | inr t ↦ let a = plain-row v pv in let b = spelt-row w t in let c = ap row_of same in absurd (cc)
  ]
  | inr s ↦ elim (spelt-or_plain w) [
    | inl pw ↦ let a = spelt-row v s in let b = plain-row w pw in let c = ap row_of same in absurd (cc)
    | inr t ↦ spelt-same v w hv hw same s t
  ]
]
