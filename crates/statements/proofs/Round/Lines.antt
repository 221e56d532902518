-- A line that has neither label nor comment is its statement, by its first word.
use Rattle.std.proofs.Common.{◌≡◌, ℕ, ◌-◌, ◌<◌, ◌≤◌, Bool, true, false, cond, not, ◌&&◌, ◌==◌, nat_le, slice_index, List, [], ◌∷◌, ◌++◌, length, Option, None, Result, Ok, refl, ap, ◌∙◌, arith, length-append}
use Rattle.std.specs.List.{list_all}
use Rattle.std.specs.Str.Lines.{strip_carriage_return}
use Rattle.std.proofs.lemmas.Bool.{and_parts, le-leb, ne_eqb}
use Rattle.std.proofs.lemmas.List.Folds.{list_all_at}
use Rattle.statements.specs.declared.fault.AsmFault.{AsmFault}
use Rattle.statements.specs.declared.fault.AsmFault.TheVariants.{TooLarge}
use Rattle.statements.specs.declared.place.Place.{Place}
use Rattle.statements.specs.Cutting.{Cut, cut, Parts, is_blank, is_empty, trim_start, cut_word, or_empty, parts_at, parts_of}
use Rattle.statements.specs.Operands.{◌>>=◌, checked}
use Rattle.statements.specs.Places.{Labels}
use Rattle.statements.specs.Forms.{form_named}
use Rattle.statements.specs.Statements.{by_name, statement_of}
use Rattle.statements.specs.Statements.Made.{Nothing}
use Rattle.statements.specs.Lines.{checked_line, line_of}
use Rattle.statements.proofs.Round.Tokens.{is_plain, all_weaker, all_both, solid_no_blank, solid_plain, cut_at, cut_nowhere, IsToken, IsTight, IsBody, token_tight, tight_more, tight_trim}

plain_parts : (c : ℕ) → is_plain c ≡ true → (not (c == 35) ≡ true) × (not (c == 58) ≡ true) × (not (c == 13) ≡ true)
plain_parts c e =
    let a = and_parts (not (c == 35)) (not (c == 58) && not (c == 13)) e in
    let b = and_parts (not (c == 58)) (not (c == 13)) a.1 in
    (a.0, b.0, b.1)

some_length : (l : List ℕ) → is_empty l ≡ false → 0 < length l
some_length [] h = absurd (cc)
some_length (c ∷ cs) h = omega arith

last_byte : (l : List ℕ) (b : Bool) → list_all (λ c. not (c == 13)) l ≡ true → is_empty l ≡ false → (slice_index l (length l - 1) == 13) ≡ b → b ≡ false
last_byte l true h some e =
    let n = some_length l some in
    let no : list_all (λ c. not (c == 13)) l ≡ false = list_all_at (λ c. not (c == 13)) l (length l - 1) 0 (omega arith) (ap not e) in
    absurd (cc)
last_byte l false h some e = refl

-- no carriage return is dropped
stripped : (l : List ℕ) → list_all is_plain l ≡ true → is_empty l ≡ false → strip_carriage_return l ≡ l
stripped l h some =
    let none = last_byte l (slice_index l (length l - 1) == 13) (all_weaker is_plain (λ c. not (c == 13)) (λ c e. (plain_parts c e).2) l h) some refl in
    rw none refl

whole : (l : List ℕ) → list_all is_plain l ≡ true → is_empty l ≡ false → length l ≤ 255 → checked_line l ≡ Ok l
unfolding checked_line
whole l h some short =
    ap (λ t. checked (nat_le (length t) 255) TooLarge t) (stripped l h some) ∙ ap (λ b. checked b TooLarge l) (le-leb (length l) 255 short)

-- no label is found, and no comment
plain_line : (l : List ℕ) → list_all is_plain l ≡ true → IsTight l → parts_of l ≡ record { label = None; statement = l }
unfolding parts_of
plain_line l h tight =
    let comment = cut_nowhere (λ c. c == 35) l (all_weaker is_plain (λ c. not (c == 35)) (λ c e. (plain_parts c e).0) l h) in
    let colon = cut_nowhere (λ c. c == 58) l (all_weaker is_plain (λ c. not (c == 58)) (λ c e. (plain_parts c e).1) l h) in
    ap (λ (k : Cut). parts_at (trim_start k.front) (cut (λ c. c == 58) (trim_start k.front))) comment
    ∙ ap (λ t. parts_at t (cut (λ c. c == 58) t)) tight.front
    ∙ ap (parts_at l) colon
    ∙ ap (λ t. record { label = None; statement = t }) (tight_trim l tight)

line_is : (l : List ℕ) (at : Place) (labels : Option Labels) → list_all is_plain l ≡ true → IsTight l → length l ≤ 255 → line_of at labels l ≡ statement_of at labels l
unfolding line_of
line_is l at labels h tight short =
    ap (λ (r : Result (List ℕ) AsmFault). r >>= λ t. statement_of at labels (parts_of t).statement) (whole l h tight.some short)
    ∙ ap (λ (p : Parts). statement_of at labels p.statement) (plain_line l h tight)

some_statement : (l name rest : List ℕ) (at : Place) (labels : Option Labels) → is_empty l ≡ false → cut_word l ≡ (name, rest) → statement_of at labels l ≡ by_name (form_named name) name at labels rest
unfolding statement_of
some_statement [] name rest at labels some word = absurd (cc)
some_statement (c ∷ cs) name rest at labels some word =
    let w = cut_word (c ∷ cs) in
    ap (λ b. cond b (Ok Nothing) (by_name (form_named w.0) w.0 at labels w.1)) (ne_eqb (length (c ∷ cs)) 0 (λ e. omega arith))
    ∙ ap (λ (w : List ℕ × List ℕ). by_name (form_named w.0) w.0 at labels w.1) word

-- a mnemonic alone
pub line_alone : (op : List ℕ) (at : Place) (labels : Option Labels) → IsToken op → line_of at labels op ≡ by_name (form_named op) op at labels []
unfolding cut_word
line_alone op at labels h =
    let word : cut_word op ≡ (op, []) = ap (λ (k : Cut). (k.front, trim_start (or_empty k.rest))) (cut_nowhere is_blank op (solid_no_blank op h.solid)) in
    line_is op at labels (solid_plain op h.solid) (token_tight op h) (omega (arith, h.short)) ∙ some_statement op op [] at labels h.some word

-- a mnemonic and operands
pub line_followed : (n : ℕ) (op rest : List ℕ) (at : Place) (labels : Option Labels) → IsToken op → IsBody n rest → n ≤ 200
    → line_of at labels (op ++ 32 ∷ rest) ≡ by_name (form_named op) op at labels rest
unfolding cut_word
line_followed n op rest at labels h k few =
    let all : list_all is_plain (op ++ 32 ∷ rest) ≡ true = all_both is_plain op (32 ∷ rest) (solid_plain op h.solid) k.plain in
    let ends : IsTight (op ++ 32 ∷ rest) = tight_more op (32 ∷ []) rest h k.tight in
    let word : cut_word (op ++ 32 ∷ rest) ≡ (op, rest) =
    ap (λ (k : Cut). (k.front, trim_start (or_empty k.rest))) (cut_at is_blank op 32 rest (solid_no_blank op h.solid) refl) ∙ ap (λ t. (op, t)) k.tight.front in
    line_is (op ++ 32 ∷ rest) at labels all ends (omega (arith, length-append op (32 ∷ rest), h.short, k.short)) ∙ some_statement (op ++ 32 ∷ rest) op rest at labels ends.some word
