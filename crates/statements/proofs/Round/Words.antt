-- The canonical text of each word is read back as that word.
use Rattle.std.proofs.Common.{◌≡◌, ℕ, ◌-◌, ◌%◌, ◌^◌, ◌<◌, true, not, ◌&&◌, ◌==◌, inl, inr, List, [], ◌∷◌, ◌++◌, Option, Some, None, option_map, Result, Ok, codes, refl, sym, ap, subst, ◌∙◌, append-nil, arith}
use Rattle.std.specs.Int.{w32, to_le_bytes}
use Rattle.std.specs.Option.{is_some}
use Rattle.std.specs.Result.{IsOkAnd}
use Rattle.std.proofs.lemmas.Bool.{eq-eqb}
use Rattle.words.specs.declared.entry.Width.TheVariants as width
use Rattle.texts.specs.Numerals.{hexadecimal}
use Rattle.table.specs.Table.{instr}
use Rattle.disassembler.specs.Canonical.{plain, canonical}
use Rattle.disassembler.proofs.Differing.{spelt-or_plain}
use Rattle.statements.specs.declared.fault.AsmFault.{AsmFault}
use Rattle.statements.specs.declared.fault.AsmFault.TheVariants.{Alignment, Label}
use Rattle.statements.specs.declared.place.Place.{Place}
use Rattle.statements.specs.declared.place.Section.TheVariants.{Text}
use Rattle.statements.specs.Cutting.{trim}
use Rattle.statements.specs.Numbers.{Number, number_of}
use Rattle.statements.specs.Operands.{checked, guarded, Find, lacks_label, named_of, is_lost}
use Rattle.statements.specs.Places.{Labels, find}
use Rattle.statements.proofs.Cuts.{last_part}
use Rattle.table.specs.Table.{row_named}
use Rattle.statements.specs.Forms.{cut_order, form_named}
use Rattle.statements.specs.Statements.{Made, datum, read_data, operands, all_found, at_multiple, data_of, directive_of}
use Rattle.statements.specs.Statements.Made.{One, Numbers}
use Rattle.statements.specs.Bytes.{AreBytesOf}
use Rattle.statements.specs.Lines.{line_of}
use Rattle.statements.proofs.Round.Tokens.{solid_no_comma, cut_nowhere, IsToken, token_tight, tight_trim, body_one}
use Rattle.statements.proofs.Round.Lines.{line_followed}
use Rattle.statements.proofs.Round.Numbers.{IsNumberText, hexadecimal_number}
use Rattle.statements.proofs.Round.Operands.{bound, hexadecimal_token, value_read}
use Rattle.statements.proofs.Round.Rows.{token_is, row_is_read}

-- a word of data

found_alone : (find : Find) (t : List ℕ) (v : Number) → number_of t ≡ Some v → trim t ≡ t → all_found find (t ∷ []) ≡ true
unfolding is_lost
found_alone None t v read same = refl
found_alone (Some find) t v read same =
    ap (λ x. not (is_lost find x) && true) same ∙ ap (λ (o : Option Number). not (not (is_some o) && lacks_label find (named_of t)) && true) read

word_read : (n : ℕ) (at : Place) (find : Find) (t : List ℕ) → IsToken t → IsNumberText (2 ^ 31) (2 ^ 32 - 1) n t → at.offset % 4 ≡ 0
    → data_of width.Word at find t ≡ Ok (Numbers width.Word (n ∷ []))
unfolding data_of datum
word_read n at find t token number whole =
    let same : trim t ≡ t = tight_trim t (token_tight t token) in
    let alone : operands t ≡ t ∷ [] = last_part (λ c. c == 44) t t (sym (cut_nowhere (λ c. c == 44) t (solid_no_comma t token.solid))) in
    let read : read_data find width.Word [] (t ∷ []) ≡ Ok (n ∷ []) =
    bound (datum find width.Word (trim t)) _ n _ (ap (λ x. datum find width.Word x) same ∙ value_read n find t number) refl in
    ap (λ ts. guarded (all_found find ts) Label (at_multiple width.Word at (read_data find width.Word [] ts))) alone
    ∙ ap (λ b. guarded b Label (at_multiple width.Word at (read_data find width.Word [] (t ∷ [])))) (found_alone find t number.value number.read same)
    ∙ ap (at_multiple width.Word at) read ∙ ap (λ b. checked b Alignment (Numbers width.Word (n ∷ []))) (eq-eqb (at.offset % 4) 0 whole)

word_line : (w : ℕ) (at : Place) (labels : Option Labels) → w < 2 ^ 32 → at.offset % 4 ≡ 0 → line_of at labels (plain w) ≡ Ok (Numbers width.Word (w ∷ []))
unfolding plain cut_order form_named row_named directive_of
word_line w at labels small whole =
    let digits = codes "0x" ++ hexadecimal w in
    let token = hexadecimal_token w in
    ap (λ l. line_of at labels (codes ".word 0x" ++ l)) (append-nil (hexadecimal w))
    ∙ line_followed 20 (codes ".word") digits at labels (token_is (codes ".word") refl) (body_one digits token) (omega arith)
    ∙ word_read w at (option_map find labels) digits token (hexadecimal_number (2 ^ 31) w small) whole

-- all words

read_back : (r : Result Made AsmFault) (made : Made) (w : ℕ) → r ≡ Ok made → AreBytesOf made (to_le_bytes w32 w) → IsOkAnd r (λ made. AreBytesOf made (to_le_bytes w32 w))
read_back r made w is bytes = subst (λ (r : Result Made AsmFault). IsOkAnd r (λ made. AreBytesOf made (to_le_bytes w32 w))) (sym is) bytes

pub texts_are_read_back : (w : ℕ) (at : Place) (labels : Option Labels) → w < 2 ^ 32 → at.section ≡ Text → at.offset % 4 ≡ 0
    → IsOkAnd (line_of at labels (canonical w)) (λ made. AreBytesOf made (to_le_bytes w32 w))
texts_are_read_back w at labels small text whole = elim (spelt-or_plain w) [
  | inl plain ↦ read_back (line_of at labels (canonical w)) (Numbers width.Word (w ∷ [])) w (ap (line_of at labels) plain ∙ word_line w at labels small whole) refl
  | inr s ↦ read_back (line_of at labels (canonical w)) (One (instr s.row w)) w (row_is_read s.row w (canonical w) at labels small s.fit text s.text)
      (record { word = w; bound = small; decodes = s.is; spelled = refl })
]
