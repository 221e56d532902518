-- The mnemonic of a row of the instruction table tells the row, and the name of a register the register.
use Rattle.std.proofs.Common.{◌≡◌, ℕ, ◌<◌, ◌==◌, ◌||◌, Bool, true, false, cond, suc, List, [], ◌∷◌, Some, None, codes, refl, sym, ap, ◌∙◌}
use Rattle.std.specs.Prelude.{bytes_eq}
use Rattle.operands.specs.Fields.{aq_of, rl_of}
use Rattle.table.specs.declared.instr.Row.{Row}
use Rattle.table.specs.declared.instr.Row.TheVariants as row
use Rattle.table.specs.Table.{name_of, row_named}
use Rattle.table.specs.declared.instr.BranchOp.{BranchOp}
use Rattle.table.specs.declared.instr.LoadOp.{LoadOp}
use Rattle.table.specs.declared.instr.StoreOp.{StoreOp}
use Rattle.table.specs.declared.instr.ImmOp.{ImmOp}
use Rattle.table.specs.declared.instr.ShiftOp.{ShiftOp}
use Rattle.table.specs.declared.instr.AluOp.{AluOp}
use Rattle.table.specs.declared.instr.AmoOp.{AmoOp}
use Rattle.table.specs.declared.instr.BranchOp.TheVariants as branch
use Rattle.table.specs.declared.instr.LoadOp.TheVariants as load
use Rattle.table.specs.declared.instr.StoreOp.TheVariants as store
use Rattle.table.specs.declared.instr.ImmOp.TheVariants as imm
use Rattle.table.specs.declared.instr.ShiftOp.TheVariants as shift
use Rattle.table.specs.declared.instr.AluOp.TheVariants as alu
use Rattle.table.specs.declared.instr.AmoOp.TheVariants as amo
use Rattle.texts.proofs.Digits.{agree, passes}
use Rattle.disassembler.specs.Mnemonics.{registers, register, order}
use Rattle.disassembler.specs.Canonical.{ordered}
use Rattle.disassembler.proofs.Cutting.{Lacks, lacks, lacks-true}

-- Mnemonics

-- the mnemonic of a word of a row
abbrev pub mnemonic : Row → ℕ → List ℕ
mnemonic (row.Amo op) w = ordered (row.Amo op) (aq_of w) (rl_of w)
mnemonic row.LoadReserved w = ordered row.LoadReserved (aq_of w) (rl_of w)
mnemonic row.StoreConditional w = ordered row.StoreConditional (aq_of w) (rl_of w)
mnemonic row w = name_of row

-- a mnemonic up to its second dot, where bits have a suffix: from behind its first dot on, and from its beginning
abbrev before_dot : List ℕ → List ℕ
before_dot [] = []
before_dot (c ∷ cs) = cond (c == 46) [] (c ∷ before_dot cs)

abbrev pub stem : List ℕ → List ℕ
stem [] = []
stem (c ∷ cs) = c ∷ cond (c == 46) (before_dot cs) (stem cs)

-- what is computed of each row: its mnemonic tells it from all others, and has no space
abbrev IsTold : Row → List ℕ → Type 0
IsTold row op = (row_named (stem op) ≡ Some row) × (lacks 32 op ≡ true)

branch-told : (op : BranchOp) → IsTold (row.Branch op) (name_of (row.Branch op))
unfolding row_named
branch-told branch.Eq = (refl, refl)
branch-told op = (refl, refl)

load-told : (op : LoadOp) → IsTold (row.Load op) (name_of (row.Load op))
unfolding row_named
load-told load.Byte = (refl, refl)
load-told op = (refl, refl)

store-told : (op : StoreOp) → IsTold (row.Store op) (name_of (row.Store op))
unfolding row_named
store-told store.Byte = (refl, refl)
store-told op = (refl, refl)

imm-told : (op : ImmOp) → IsTold (row.OpImm op) (name_of (row.OpImm op))
unfolding row_named
imm-told imm.Add = (refl, refl)
imm-told op = (refl, refl)

shift-told : (op : ShiftOp) → IsTold (row.ShiftImm op) (name_of (row.ShiftImm op))
unfolding row_named
shift-told shift.Sll = (refl, refl)
shift-told op = (refl, refl)

op-told : (op : AluOp) → IsTold (row.Op op) (name_of (row.Op op))
unfolding row_named
op-told alu.Add = (refl, refl)
op-told op = (refl, refl)

amo-told : (op : AmoOp) (aq rl : Bool) → IsTold (row.Amo op) (ordered (row.Amo op) aq rl)
unfolding row_named
amo-told amo.Add false false = (refl, refl)
amo-told op false false = (refl, refl)
amo-told amo.Add true false = (refl, refl)
amo-told op true false = (refl, refl)
amo-told amo.Add false true = (refl, refl)
amo-told op false true = (refl, refl)
amo-told amo.Add true true = (refl, refl)
amo-told op true true = (refl, refl)

reserved-told : (aq rl : Bool) → IsTold row.LoadReserved (ordered row.LoadReserved aq rl)
unfolding row_named
reserved-told false false = (refl, refl)
reserved-told true false = (refl, refl)
reserved-told false true = (refl, refl)
reserved-told true true = (refl, refl)

conditional-told : (aq rl : Bool) → IsTold row.StoreConditional (ordered row.StoreConditional aq rl)
unfolding row_named
conditional-told false false = (refl, refl)
conditional-told true false = (refl, refl)
conditional-told false true = (refl, refl)
conditional-told true true = (refl, refl)

told : (row : Row) (w : ℕ) → IsTold row (mnemonic row w)
unfolding row_named
told (row.Branch op) w = branch-told op
told (row.Load op) w = load-told op
told (row.Store op) w = store-told op
told (row.OpImm op) w = imm-told op
told (row.ShiftImm op) w = shift-told op
told (row.Op op) w = op-told op
told (row.Amo op) w = amo-told op (aq_of w) (rl_of w)
told row.LoadReserved w = reserved-told (aq_of w) (rl_of w)
told row.StoreConditional w = conditional-told (aq_of w) (rl_of w)
told row w = (refl, refl)

pub mnemonic-row : (row : Row) (w : ℕ) → row_named (stem (mnemonic row w)) ≡ Some row
mnemonic-row row w = (told row w).0

pub mnemonic-lacks : (row : Row) (w : ℕ) → Lacks 32 (mnemonic row w)
mnemonic-lacks row w = lacks-true 32 (mnemonic row w) (told row w).1

-- the bits that a suffix stands for
abbrev bits_of : List ℕ → Bool × Bool
bits_of suffix = (bytes_eq suffix (order true false) || bytes_eq suffix (order true true), bytes_eq suffix (order false true) || bytes_eq suffix (order true true))

bits-told : (aq rl : Bool) → bits_of (order aq rl) ≡ (aq, rl)
bits-told false false = refl
bits-told true false = refl
bits-told false true = refl
bits-told true true = refl

pub order-same : (a b c d : Bool) → order a b ≡ order c d → (a ≡ c) × (b ≡ d)
order-same a b c d same =
    let bits : (a, b) ≡ (c, d) = sym (bits-told a b) ∙ ap bits_of same ∙ bits-told c d in
    (ap (λ (p : Bool × Bool). p.0) bits, ap (λ (p : Bool × Bool). p.1) bits)

-- a word without a row has a name of its own
pub word-named : row_named (stem (codes ".word")) ≡ None
unfolding row_named
word-named = refl

-- Registers

abbrev place_in : List (List ℕ) → List ℕ → ℕ
place_in [] name = 0
place_in (r ∷ rs) name = cond (bytes_eq r name) 0 (suc (place_in rs name))

register-place : (r : ℕ) → r < 32 → place_in registers (register r) ≡ r
unfolding register
register-place r h = agree 32 (λ k. place_in registers (register k)) refl r h

pub register-same : (r s : ℕ) → r < 32 → s < 32 → register r ≡ register s → r ≡ s
register-same r s hr hs same = sym (register-place r hr) ∙ ap (place_in registers) same ∙ register-place s hs

-- no name of a register has a comma
pub register-comma : (r : ℕ) → r < 32 → Lacks 44 (register r)
unfolding register
register-comma r h = lacks-true 44 (register r) (passes 32 (λ k. lacks 44 (register k)) refl r h)

-- or a closing parenthesis
pub register-closing : (r : ℕ) → r < 32 → Lacks 41 (register r)
unfolding register
register-closing r h = lacks-true 41 (register r) (passes 32 (λ k. lacks 41 (register k)) refl r h)
