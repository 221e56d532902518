-- What each mnemonic stands for: a row of the instruction table, a pseudo-instruction, which is one or two instructions, or a
-- directive.
use Rattle.std.specs.Prelude.{ℕ, ◌-◌, ◌&&◌, cond, not, if◌then◌else◌, Bool, true, false, List, [], ◌∷◌, length, take, drop, codes, bytes_eq, Option, Some, None}
use Rattle.std.specs.Option.{option_or}
use Rattle.table.specs.Table.{row_named}
use Rattle.table.specs.declared.instr.Row as table
use Rattle.table.specs.declared.instr.Row.TheVariants.{Amo, LoadReserved, StoreConditional}
use Rattle.table.specs.declared.instr.BranchOp.TheVariants as branch
use Rattle.statements.specs.declared.form.Form.{Form}
use Rattle.statements.specs.declared.form.Form.TheVariants.{Row, BranchSwapped, BranchZero, BranchFromZero, J, Jr, Li, La, Pair, Alone, Directive}
use Rattle.statements.specs.declared.form.Order.{Order}
use Rattle.statements.specs.declared.form.Alone.TheVariants as alone
use Rattle.statements.specs.declared.form.Pair.TheVariants as pair
use Rattle.statements.specs.declared.form.Directive.TheVariants as directive

-- pseudo-instructions and directives
abbrev pub forms : List (List ℕ × Form)
forms =
    (codes "nop", Alone alone.Nop) ∷ (codes "ret", Alone alone.Ret) ∷
    (codes "j", J) ∷ (codes "jr", Jr) ∷ (codes "li", Li) ∷ (codes "la", La) ∷
    (codes "mv", Pair pair.Mv) ∷ (codes "not", Pair pair.Not) ∷ (codes "neg", Pair pair.Neg) ∷ (codes "seqz", Pair pair.Seqz) ∷
    (codes "snez", Pair pair.Snez) ∷ (codes "sltz", Pair pair.Sltz) ∷ (codes "sgtz", Pair pair.Sgtz) ∷
    (codes "beqz", BranchZero branch.Eq) ∷ (codes "bnez", BranchZero branch.Ne) ∷ (codes "bltz", BranchZero branch.Lt) ∷
    (codes "bgez", BranchZero branch.Ge) ∷
    (codes "bgtz", BranchFromZero branch.Lt) ∷ (codes "blez", BranchFromZero branch.Ge) ∷
    (codes "bgt", BranchSwapped branch.Lt) ∷ (codes "ble", BranchSwapped branch.Ge) ∷ (codes "bgtu", BranchSwapped branch.Ltu) ∷
    (codes "bleu", BranchSwapped branch.Geu) ∷
    (codes ".text", Directive directive.Text) ∷ (codes ".data", Directive directive.Data) ∷ (codes ".globl", Directive directive.Globl) ∷
    (codes ".word", Directive directive.Word) ∷ (codes ".half", Directive directive.Half) ∷ (codes ".byte", Directive directive.Byte) ∷
    (codes ".space", Directive directive.Space) ∷ (codes ".balign", Directive directive.Balign) ∷
    []

-- the form in the first row with a name
abbrev pub form_of : List (List ℕ × Form) → List ℕ → Option Form
form_of [] name = None
form_of (row ∷ rows) name = cond (bytes_eq row.0 name) (Some row.1) (form_of rows name)

-- Orders: the bits aq and rl

-- a name in front of a suffix, and the bits that the suffix stands for
pub record Ordered : Type 0 where
  pub name : List ℕ
  pub aq : Bool
  pub rl : Bool

-- whether a text ends with a suffix, and what is in front of it
abbrev pub ends_with : List ℕ → List ℕ → Bool
ends_with suffix text = bytes_eq (drop (length text - length suffix) text) suffix

abbrev pub front : List ℕ → List ℕ → List ℕ
front suffix text = take (length text - length suffix) text

-- a mnemonic without its suffix, and the bits: neither is set where there is no suffix
unfoldable pub cut_order : List ℕ → Ordered
cut_order text =
    if ends_with (codes ".aqrl") text then record { name = front (codes ".aqrl") text; aq = true; rl = true }
    else (if ends_with (codes ".aq") text then record { name = front (codes ".aq") text; aq = true; rl = false }
    else (if ends_with (codes ".rl") text then record { name = front (codes ".rl") text; aq = false; rl = true }
    else record { name = text; aq = false; rl = false }))

-- whether a row has words with this order: atomic operations, LR and SC alone have the two bits
abbrev pub has_order : table.Row → Order → Bool
has_order (Amo op) order = true
has_order LoadReserved order = true
has_order StoreConditional order = true
has_order row order = not order.aq && not order.rl

abbrev pub row_form : Option table.Row → Order → Option Form
row_form None order = None
row_form (Some row) order = cond (has_order row order) (Some (Row row order)) None

-- the form of a mnemonic, if it is one: instructions have the names of the table's rows, some of them with a suffix
unfoldable pub form_named : List ℕ → Option Form
form_named text =
    let cut = cut_order text in
    option_or (row_form (row_named cut.name) (record { aq = cut.aq; rl = cut.rl })) (form_of forms text)
