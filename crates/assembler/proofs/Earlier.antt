-- What a line makes with the labels it makes without them too: the first pass finds no fault that the second doesn't.
use Rattle.std.proofs.Common.{◌≡◌, ℕ, ◌%◌, ◌-◌, ◌^◌, ◌==◌, ◌++◌, Bool, true, false, cond, List, [], ◌∷◌, length, Option, Some, None, Result, Ok, refl, ap, ◌∙◌}
use Rattle.words.specs.declared.entry.Width.{Width}
use Rattle.words.specs.declared.entry.Width.TheVariants as width
use Rattle.words.specs.Bytes.{bytes_in}
use Rattle.table.specs.declared.instr.Instr.{Instr}
use Rattle.table.specs.declared.instr.Instr.TheVariants as instr
use Rattle.table.specs.declared.instr.Row.{Row}
use Rattle.table.specs.declared.instr.Row.TheVariants as row
use Rattle.table.specs.declared.instr.BranchOp.{BranchOp}
use Rattle.statements.specs.declared.fault.AsmFault.{AsmFault}
use Rattle.statements.specs.declared.fault.AsmFault.TheVariants.{Alignment}
use Rattle.statements.specs.declared.form.Form.{Form}
use Rattle.statements.specs.declared.form.Form.TheVariants as form
use Rattle.statements.specs.declared.form.Order.{Order}
use Rattle.statements.specs.declared.form.Directive as directives
use Rattle.statements.specs.declared.form.Directive.TheVariants as directive
use Rattle.statements.specs.declared.place.Place.{Place}
use Rattle.statements.specs.Cutting.{cut_word, trim}
use Rattle.statements.specs.Numbers.{Number, number_of}
use Rattle.statements.specs.Forms.{form_named}
use Rattle.statements.specs.Operands.{◌>>=◌, guarded, checked, Find, Named, register, named_of, number_or_named, target, in_range, offset, value}
use Rattle.statements.specs.Instructions.{two, three, last, branch_of, branch_swapped_of, branch_zero_of, jal_of, tbegin_of, j_of, by_row}
use Rattle.statements.specs.Places.{Labels, find}
use Rattle.statements.specs.Statements.{Made, in_two, la_of, datum, read_data, operands, at_multiple, data_of, obeyed, directive_of, one, instruction_of, by_form, by_name, pc_of, statement_of}
use Rattle.statements.specs.Statements.Made.{Nothing, One, Numbers}
use Rattle.assembler.proofs.Sizes.{bind_ok, guarded_ok, checked_ok}

abbrev pub Makes : {A : Type 0} → Result A AsmFault → Type 0
Makes {A} r = (x : A) × (r ≡ Ok x)

-- one step, and those behind it
then : {A B : Type 0} (r : Result A AsmFault) (f : A → Result B AsmFault) (x : A) → r ≡ Ok x → Makes (f x) → Makes (r >>= f)
then r f x is next = (next.0, ap (λ s. s >>= f) is ∙ next.1)

-- Operands

-- an offset, by the number or the label that the operand is
abbrev offset_by : ℕ → ℕ → ℕ → ℕ → Find → Option Number → Option Named → Result ℕ AsmFault
offset_by low high step from find n t = number_or_named from find n t >>= λ n. in_range low high n >>= λ v. checked (v % step == 0) Alignment v

offset_makes_by : (low high step pc q : ℕ) (f : List ℕ → Option ℕ) (n : Option Number) (t : Option Named) (v : ℕ) → (0 % step == 0) ≡ true → offset_by low high step pc (Some f) n t ≡ Ok v
    → Makes (offset_by low high step q None n t)
offset_makes_by low high step pc q f (Some n) t v whole e = (v, e)
offset_makes_by low high step pc q f None None v whole e = absurd (cc)
offset_makes_by low high step pc q f None (Some t) v whole e = (0, ap (λ b. checked b Alignment 0) whole)

offset_makes : (low high step pc q : ℕ) (f : List ℕ → Option ℕ) (text : List ℕ) (v : ℕ) → (0 % step == 0) ≡ true → offset low high step pc (Some f) text ≡ Ok v → Makes (offset low high step q None text)
unfolding offset target
offset_makes low high step pc q f text v whole e = offset_makes_by low high step pc q f (number_of text) (named_of text) v whole e

value_makes_by : (f : List ℕ → Option ℕ) (n : Option Number) (t : Option Named) (v : ℕ) → (number_or_named 0 (Some f) n t >>= in_range (2 ^ 31) (2 ^ 32 - 1)) ≡ Ok v
    → Makes (number_or_named 0 None n t >>= in_range (2 ^ 31) (2 ^ 32 - 1))
value_makes_by f (Some n) t v e = (v, e)
value_makes_by f None None v e = absurd (cc)
value_makes_by f None (Some t) v e = (0, refl)

value_makes : (f : List ℕ → Option ℕ) (text : List ℕ) (v : ℕ) → value (Some f) text ≡ Ok v → Makes (value None text)
unfolding value target
value_makes f text v e = value_makes_by f (number_of text) (named_of text) v e

-- Instructions

branch_makes : (op : BranchOp) (pc : ℕ) (f : List ℕ → Option ℕ) (text : List ℕ) (i : Instr) → branch_of op pc (Some f) text ≡ Ok i → Makes (branch_of op 0 None text)
unfolding branch_of
branch_makes op pc f text i e =
    let a = bind_ok (three text) _ i e in
    let b = bind_ok (register a.0.first) _ i a.2 in
    let c = bind_ok (register a.0.second) _ i b.2 in
    let d = bind_ok (offset 4096 4094 2 pc (Some f) a.0.third) _ i c.2 in
    let n = offset_makes 4096 4094 2 pc 0 f a.0.third d.0 refl d.1 in
    then (three text) _ a.0 a.1 (then (register a.0.first) _ b.0 b.1 (then (register a.0.second) _ c.0 c.1 (then (offset 4096 4094 2 0 None a.0.third) _ n.0 n.1 (instr.Branch op b.0 c.0 n.0, refl))))

branch_swapped_makes : (op : BranchOp) (pc : ℕ) (f : List ℕ → Option ℕ) (text : List ℕ) (i : Instr) → branch_swapped_of op pc (Some f) text ≡ Ok i → Makes (branch_swapped_of op 0 None text)
unfolding branch_swapped_of
branch_swapped_makes op pc f text i e =
    let a = bind_ok (three text) _ i e in
    let b = bind_ok (register a.0.first) _ i a.2 in
    let c = bind_ok (register a.0.second) _ i b.2 in
    let d = bind_ok (offset 4096 4094 2 pc (Some f) a.0.third) _ i c.2 in
    let n = offset_makes 4096 4094 2 pc 0 f a.0.third d.0 refl d.1 in
    then (three text) _ a.0 a.1 (then (register a.0.first) _ b.0 b.1 (then (register a.0.second) _ c.0 c.1 (then (offset 4096 4094 2 0 None a.0.third) _ n.0 n.1 (instr.Branch op c.0 b.0 n.0, refl))))

branch_zero_makes : (make : ℕ → ℕ → Instr) (pc : ℕ) (f : List ℕ → Option ℕ) (text : List ℕ) (i : Instr) → branch_zero_of make pc (Some f) text ≡ Ok i → Makes (branch_zero_of make 0 None text)
unfolding branch_zero_of
branch_zero_makes make pc f text i e =
    let a = bind_ok (two text) _ i e in
    let b = bind_ok (register a.0.0) _ i a.2 in
    let d = bind_ok (offset 4096 4094 2 pc (Some f) a.0.1) _ i b.2 in
    let n = offset_makes 4096 4094 2 pc 0 f a.0.1 d.0 refl d.1 in
    then (two text) _ a.0 a.1 (then (register a.0.0) _ b.0 b.1 (then (offset 4096 4094 2 0 None a.0.1) _ n.0 n.1 (make b.0 n.0, refl)))

jal_makes : (pc : ℕ) (f : List ℕ → Option ℕ) (text : List ℕ) (i : Instr) → jal_of pc (Some f) text ≡ Ok i → Makes (jal_of 0 None text)
unfolding jal_of
jal_makes pc f text i e =
    let a = bind_ok (two text) _ i e in
    let b = bind_ok (register a.0.0) _ i a.2 in
    let d = bind_ok (offset 1048576 1048574 2 pc (Some f) a.0.1) _ i b.2 in
    let n = offset_makes 1048576 1048574 2 pc 0 f a.0.1 d.0 refl d.1 in
    then (two text) _ a.0 a.1 (then (register a.0.0) _ b.0 b.1 (then (offset 1048576 1048574 2 0 None a.0.1) _ n.0 n.1 (instr.Jal b.0 n.0, refl)))

tbegin_makes : (pc : ℕ) (f : List ℕ → Option ℕ) (text : List ℕ) (i : Instr) → tbegin_of pc (Some f) text ≡ Ok i → Makes (tbegin_of 0 None text)
unfolding tbegin_of
tbegin_makes pc f text i e =
    let a = bind_ok (last text) _ i e in
    let d = bind_ok (offset 4096 4094 4 pc (Some f) a.0) _ i a.2 in
    let n = offset_makes 4096 4094 4 pc 0 f a.0 d.0 refl d.1 in
    then (last text) _ a.0 a.1 (then (offset 4096 4094 4 0 None a.0) _ n.0 n.1 (instr.TBegin n.0, refl))

j_makes : (pc : ℕ) (f : List ℕ → Option ℕ) (text : List ℕ) (i : Instr) → j_of pc (Some f) text ≡ Ok i → Makes (j_of 0 None text)
unfolding j_of
j_makes pc f text i e =
    let a = bind_ok (last text) _ i e in
    let d = bind_ok (offset 1048576 1048574 2 pc (Some f) a.0) _ i a.2 in
    let n = offset_makes 1048576 1048574 2 pc 0 f a.0 d.0 refl d.1 in
    then (last text) _ a.0 a.1 (then (offset 1048576 1048574 2 0 None a.0) _ n.0 n.1 (instr.Jal 0 n.0, refl))

row_makes : (r : Row) (order : Order) (pc : ℕ) (f : List ℕ → Option ℕ) (text : List ℕ) (i : Instr) → by_row r order pc (Some f) text ≡ Ok i → Makes (by_row r order 0 None text)
unfolding by_row
row_makes (row.Branch op) order pc f text i e = branch_makes op pc f text i e
row_makes row.Jal order pc f text i e = jal_makes pc f text i e
row_makes row.TBegin order pc f text i e = tbegin_makes pc f text i e
row_makes r order pc f text i e = (i, e)

instruction_makes : (op : Form) (pc : ℕ) (f : List ℕ → Option ℕ) (text : List ℕ) (i : Instr) → instruction_of op pc (Some f) text ≡ Ok i → Makes (instruction_of op 0 None text)
unfolding instruction_of
instruction_makes (form.Row r order) pc f text i e = row_makes r order pc f text i e
instruction_makes (form.BranchSwapped op) pc f text i e = branch_swapped_makes op pc f text i e
instruction_makes (form.BranchZero op) pc f text i e = branch_zero_makes _ pc f text i e
instruction_makes (form.BranchFromZero op) pc f text i e = branch_zero_makes _ pc f text i e
instruction_makes form.J pc f text i e = j_makes pc f text i e
instruction_makes op pc f text i e = (i, e)

la_makes : (f : List ℕ → Option ℕ) (text : List ℕ) (m : Made) → la_of (Some f) text ≡ Ok m → Makes (la_of None text)
unfolding la_of
la_makes f text m e =
    let a = bind_ok (two text) _ m e in
    let b = bind_ok (register a.0.0) _ m a.2 in
    let d = bind_ok (value (Some f) a.0.1) _ m b.2 in
    let n = value_makes f a.0.1 d.0 d.1 in
    then (two text) _ a.0 a.1 (then (register a.0.0) _ b.0 b.1 (then (value None a.0.1) _ n.0 n.1 (in_two b.0 n.0, refl)))

-- Directives

datum_makes : (w : Width) (f : List ℕ → Option ℕ) (text : List ℕ) (v : ℕ) → datum (Some f) w text ≡ Ok v → Makes (datum None w text)
unfolding datum
datum_makes width.Word f text v e = value_makes f text v e
datum_makes w f text v e = (v, e)

read_makes : (w : Width) (f : List ℕ → Option ℕ) (texts : List (List ℕ)) (us vs r : List ℕ) → read_data (Some f) w us texts ≡ Ok r → Makes (read_data None w vs texts)
read_makes w f [] us vs r e = (vs, refl)
read_makes w f (t ∷ ts) us vs r e =
    let a = bind_ok (datum (Some f) w (trim t)) (λ v. read_data (Some f) w (us ++ v ∷ []) ts) r e in
    let v = datum_makes w f (trim t) a.0 a.1 in
    let rest = read_makes w f ts (us ++ a.0 ∷ []) (vs ++ v.0 ∷ []) r a.2 in
    (rest.0, ap (λ (x : Result ℕ AsmFault). x >>= λ v. read_data None w (vs ++ v ∷ []) ts) v.1 ∙ rest.1)

data_makes : (w : Width) (at : Place) (f : List ℕ → Option ℕ) (text : List ℕ) (m : Made) → data_of w at (Some f) text ≡ Ok m → Makes (data_of w at None text)
unfolding data_of
data_makes w at f text m e =
    let a = guarded_ok _ _ (at_multiple w at (read_data (Some f) w [] (operands text))) m e in
    let b = bind_ok (read_data (Some f) w [] (operands text)) _ m a.1 in
    let c = checked_ok (at.offset % bytes_in w == 0) Alignment (Numbers w b.0) m b.2 in
    let n = read_makes w f (operands text) [] [] b.0 b.1 in
    (Numbers w n.0, ap (at_multiple w at) n.1 ∙ ap (λ t. checked t Alignment (Numbers w n.0)) c.0)

obeyed_makes : (op : directives.Directive) (at : Place) (f : List ℕ → Option ℕ) (text : List ℕ) (m : Made) → obeyed op at (Some f) text ≡ Ok m → Makes (obeyed op at None text)
obeyed_makes directive.Word at f text m e = data_makes width.Word at f text m e
obeyed_makes directive.Half at f text m e = data_makes width.Half at f text m e
obeyed_makes directive.Byte at f text m e = data_makes width.Byte at f text m e
obeyed_makes op at f text m e = (m, e)

under : (b : Bool) (d : AsmFault) (r s : Result Made AsmFault) (m : Made) → ((m : Made) → r ≡ Ok m → Makes s) → guarded b d r ≡ Ok m → Makes (guarded b d s)
under true d r s m h e = h m e
under false d r s m h e = absurd (cc)

one_makes : (r s : Result Instr AsmFault) → ((i : Instr) → r ≡ Ok i → Makes s) → (m : Made) → one r ≡ Ok m → Makes (one s)
one_makes r s h m e =
    let a = bind_ok r _ m e in
    let b = h a.0 a.1 in
    (One b.0, ap one b.1)

-- Statements

form_makes : (op : Form) (at : Place) (labels : Labels) (text : List ℕ) (m : Made) → by_form op at (Some labels) text ≡ Ok m → Makes (by_form op at None text)
unfolding directive_of
form_makes (form.Directive op) at labels text m e = under _ _ (obeyed op at (Some (find labels)) text) (obeyed op at None text) m (obeyed_makes op at (find labels) text) e
form_makes form.Li at labels text m e = (m, e)
form_makes form.La at labels text m e = under _ _ (la_of (Some (find labels)) text) (la_of None text) m (la_makes (find labels) text) e
form_makes op at labels text m e =
    under _ _ (one (instruction_of op (pc_of (Some labels) at) (Some (find labels)) text)) (one (instruction_of op 0 None text)) m
    (one_makes (instruction_of op (pc_of (Some labels) at) (Some (find labels)) text) (instruction_of op 0 None text) (instruction_makes op (pc_of (Some labels) at) (find labels) text)) e

name_makes : (op : Option Form) (name : List ℕ) (at : Place) (labels : Labels) (text : List ℕ) (m : Made) → by_name op name at (Some labels) text ≡ Ok m → Makes (by_name op name at None text)
name_makes None name at labels text m e = absurd (cc)
name_makes (Some op) name at labels text m e = form_makes op at labels text m e

either : (b : Bool) (x r s : Result Made AsmFault) (m : Made) → (r ≡ Ok m → Makes s) → cond b x r ≡ Ok m → Makes (cond b x s)
either true x r s m h e = (m, e)
either false x r s m h e = h e

pub statement_makes : (at : Place) (labels : Labels) (text : List ℕ) (m : Made) → statement_of at (Some labels) text ≡ Ok m → Makes (statement_of at None text)
unfolding statement_of
statement_makes at labels text m e =
    either (length text == 0) (Ok Nothing) (by_name (form_named (cut_word text).0) (cut_word text).0 at (Some labels) (cut_word text).1) (by_name (form_named (cut_word text).0) (cut_word text).0 at None (cut_word text).1) m
    (name_makes (form_named (cut_word text).0) (cut_word text).0 at labels (cut_word text).1 m) e
