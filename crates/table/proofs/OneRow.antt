-- No word has two rows.
use Rattle.std.proofs.Common.{◌≡◌, ℕ, zero, suc, Bool, true, false, not, ◌&&◌, ◌||◌, List, [], ◌∷◌, refl, sym, ◌∙◌, ap, bit_and, eqb}
use Rattle.std.proofs.lemmas.Bool.{and_parts, not-true, eqb-false}
use Rattle.std.specs.Prelude.{IsSomeAnd, IsTrue, slice_get}
use Rattle.std.specs.List.{list_all}
use Rattle.operands.specs.Fields.{opcode_of}
use Rattle.table.specs.declared.instr.Row.{Row}
use Rattle.table.specs.Table.{Key, fits, key, table, RowHas}
use Rattle.table.specs.Table.Key.{Funct3, Funct7, Funct5, Rs2, Word, Masked}
use Rattle.table.proofs.Keys.{f3_fits, f7_fits, f5_fits, rs2_fits, word_fits, masked_fits, opcode_fits, key_opcode, FitsF3, FitsF3F7, FitsF3F5}

abbrev differ : ℕ → ℕ → Bool
differ a b = not (eqb a b)

-- a test that tells that two keys, the first of which stands before the second in the table, have no word in common
abbrev are_apart : Key → Key → Bool
are_apart (Funct3 o f) (Funct3 p g) = differ o p || differ f g
are_apart (Funct3 o f) (Funct7 p g h) = differ o p || differ f g
are_apart (Funct7 o f g) (Funct7 p h k) = differ o p || (differ f h || differ g k)
are_apart (Funct5 o f g) (Funct5 p h k) = differ o p || (differ f h || differ g k)
are_apart (Funct5 o f g) (Rs2 p h k s) = differ o p || (differ f h || differ g k)
are_apart (Rs2 o f g s) (Funct5 p h k) = differ o p || (differ f h || differ g k)
are_apart (Word v) (Word u) = differ v u
are_apart (Masked m v) (Word u) = differ (bit_and u m) v
are_apart k l = differ (key_opcode k) (key_opcode l)

-- two numbers that differ aren't both one number
not_both : (a b x : ℕ) → differ a b ≡ true → x ≡ a → x ≡ b → ⊥
not_both a b x apart xa xb = eqb-false a b (not-true (eqb a b) apart) (sym xa ∙ xb)

neither : (s t : Bool) → (s || t) ≡ true → (s ≡ true → ⊥) → (t ≡ true → ⊥) → ⊥
neither true t apart no-s no-t = no-s refl
neither false t apart no-s no-t = no-t apart

apart_f5 : (o f g p h i w : ℕ) → (differ o p || (differ f h || differ g i)) ≡ true → FitsF3F5 o f g w → FitsF3F5 p h i w → ⊥
apart_f5 o f g p h i w apart a b =
    neither (differ o p) (differ f h || differ g i) apart (λ d. not_both o p _ d a.opcode b.opcode) (λ e. neither (differ f h) (differ g i) e (λ d. not_both f h _ d a.funct3 b.funct3) (λ d. not_both g i _ d a.funct5 b.funct5))

apart_keys : (k l : Key) (w : ℕ) → are_apart k l ≡ true → fits k w ≡ true → fits l w ≡ true → ⊥
apart_keys (Funct3 o f) (Funct3 p g) w apart k l =
    let a : FitsF3 o f w = f3_fits o f w k in
    let b : FitsF3 p g w = f3_fits p g w l in
    neither (differ o p) (differ f g) apart (λ d. not_both o p _ d a.opcode b.opcode) (λ d. not_both f g _ d a.funct3 b.funct3)
apart_keys (Funct3 o f) (Funct7 p g h) w apart k l =
    let a : FitsF3 o f w = f3_fits o f w k in
    let b : FitsF3F7 p g h w = f7_fits p g h w l in
    neither (differ o p) (differ f g) apart (λ d. not_both o p _ d a.opcode b.opcode) (λ d. not_both f g _ d a.funct3 b.funct3)
apart_keys (Funct7 o f g) (Funct7 p h i) w apart k l =
    let a : FitsF3F7 o f g w = f7_fits o f g w k in
    let b : FitsF3F7 p h i w = f7_fits p h i w l in
    neither (differ o p) (differ f h || differ g i) apart (λ d. not_both o p _ d a.opcode b.opcode) (λ e. neither (differ f h) (differ g i) e (λ d. not_both f h _ d a.funct3 b.funct3) (λ d. not_both g i _ d a.funct7 b.funct7))
apart_keys (Funct5 o f g) (Funct5 p h i) w apart k l = apart_f5 o f g p h i w apart (f5_fits o f g w k) (f5_fits p h i w l)
apart_keys (Funct5 o f g) (Rs2 p h i s) w apart k l = apart_f5 o f g p h i w apart (f5_fits o f g w k) (rs2_fits p h i s w l).funct5
apart_keys (Rs2 o f g s) (Funct5 p h i) w apart k l = apart_f5 o f g p h i w apart (rs2_fits o f g s w k).funct5 (f5_fits p h i w l)
apart_keys (Word v) (Word u) w apart k l = not_both v u w apart (word_fits v w k) (word_fits u w l)
apart_keys (Masked m v) (Word u) w apart k l = not_both (bit_and u m) v (bit_and w m) apart (ap (λ x. bit_and x m) (word_fits u w l)) (masked_fits m v w k)
apart_keys k l w apart kf lf = not_both (key_opcode k) (key_opcode l) (opcode_of w) apart (opcode_fits k w kf) (opcode_fits l w lf)

-- each row is apart from those after it
abbrev all_apart : List Row → Bool
all_apart [] = true
all_apart (row ∷ rows) = list_all (λ other. are_apart (key row) (key other)) rows && all_apart rows

table_is_apart : all_apart table ≡ true
table_is_apart = refl

-- whether the row at this place has a word
abbrev Has : List Row → ℕ → ℕ → Type 0
Has rows i w = IsSomeAnd (slice_get rows i) (λ row. IsTrue (fits (key row) w))

none_later : (row : Row) (rows : List Row) (w j : ℕ) → list_all (λ other. are_apart (key row) (key other)) rows ≡ true → fits (key row) w ≡ true → Has rows j w → ⊥
none_later row [] w j apart fit has = has
none_later row (other ∷ rows) w zero apart fit has =
    let both = and_parts (are_apart (key row) (key other)) (list_all (λ other. are_apart (key row) (key other)) rows) apart in
    apart_keys (key row) (key other) w both.0 fit has
none_later row (other ∷ rows) w (suc j) apart fit has =
    let both = and_parts (are_apart (key row) (key other)) (list_all (λ other. are_apart (key row) (key other)) rows) apart in
    none_later row rows w j both.1 fit has

one_of : (rows : List Row) (w i j : ℕ) → all_apart rows ≡ true → Has rows i w → Has rows j w → i ≡ j
one_of [] w i j apart hi hj = absurd hi
one_of (row ∷ rows) w zero zero apart hi hj = refl
one_of (row ∷ rows) w zero (suc j) apart hi hj =
    let both = and_parts (list_all (λ other. are_apart (key row) (key other)) rows) (all_apart rows) apart in
    absurd (none_later row rows w j both.0 hi hj)
one_of (row ∷ rows) w (suc i) zero apart hi hj =
    let both = and_parts (list_all (λ other. are_apart (key row) (key other)) rows) (all_apart rows) apart in
    absurd (none_later row rows w i both.0 hj hi)
one_of (row ∷ rows) w (suc i) (suc j) apart hi hj =
    let both = and_parts (list_all (λ other. are_apart (key row) (key other)) rows) (all_apart rows) apart in
    ap suc (one_of rows w i j both.1 hi hj)

-- the rows that have a word are one
pub one_row : (w i j : ℕ) → RowHas i w → RowHas j w → i ≡ j
unfolding RowHas
one_row w i j hi hj = one_of table w i j table_is_apart hi hj
