-- The operands of each form are read back as the instruction that they spell.
use Rattle.std.proofs.Common.{◌≡◌, ℕ, ◌+◌, ◌%◌, ◌^◌, ◌<◌, List, [], ◌∷◌, ◌++◌, Ok, refl, arith}
use Rattle.std.specs.Prelude.{decimal}
use Rattle.table.specs.declared.instr.Instr.{Instr}
use Rattle.table.specs.declared.instr.Instr.TheVariants as instr
use Rattle.table.specs.declared.instr.BranchOp.{BranchOp}
use Rattle.table.specs.declared.instr.LoadOp.{LoadOp}
use Rattle.table.specs.declared.instr.StoreOp.{StoreOp}
use Rattle.table.specs.declared.instr.ImmOp.{ImmOp}
use Rattle.table.specs.declared.instr.ShiftOp.{ShiftOp}
use Rattle.table.specs.declared.instr.AluOp.{AluOp}
use Rattle.table.specs.declared.instr.AmoOp.{AmoOp}
use Rattle.disassembler.specs.Mnemonics.{register as register_text}
use Rattle.disassembler.specs.Canonical.{signed, upper as upper_text}
use Rattle.statements.specs.declared.form.Order.{Order}
use Rattle.statements.specs.Operands.{Find, register, immediate, upper, based, indirect, offset}
use Rattle.statements.specs.Instructions.{two, three, last, op_of, op_imm_of, shift_imm_of, load_of, store_of, amo_of, load_reserved_of, store_conditional_of, upper_of, branch_of, jal_of, jalr_of, tbegin_of}
use Rattle.statements.proofs.Round.Numbers.{decimal_number, signed_number}
use Rattle.statements.proofs.Round.Operands.{bound, register_read, register_token, decimal_token, signed_token, upper_token, immediate_read, upper_read, offset_read, in_parentheses, based_token, based_read, indirect_token, indirect_read}
use Rattle.statements.proofs.Round.Lists.{last_read, two_read, three_read}

-- operands, parted by a comma and a space

abbrev pub pair : List ℕ → List ℕ → List ℕ
pair a b = a ++ 44 ∷ 32 ∷ b

abbrev pub triple : List ℕ → List ℕ → List ℕ → List ℕ
triple a b c = pair a (pair b c)

pub op_read : (op : AluOp) (d s t : ℕ) → d < 32 → s < 32 → t < 32 → op_of op (triple (register_text d) (register_text s) (register_text t)) ≡ Ok (instr.Op op d s t)
unfolding op_of
op_read op d s t hd hs ht =
    let a = register_text d in let b = register_text s in let c = register_text t in
    bound (three (triple a b c)) _ (record { first = a; second = b; third = c }) _ (three_read a b c (register_token d hd) (register_token s hs) (register_token t ht))
    (bound (register a) _ d _ (register_read d hd) (bound (register b) _ s _ (register_read s hs) (bound (register c) _ t _ (register_read t ht) refl)))

pub op_imm_read : (op : ImmOp) (d s n : ℕ) → d < 32 → s < 32 → n < 2 ^ 32 → (n + 2048) % 2 ^ 32 < 4096
    → op_imm_of op (triple (register_text d) (register_text s) (signed n)) ≡ Ok (instr.OpImm op d s n)
unfolding op_imm_of
op_imm_read op d s n hd hs small within =
    let a = register_text d in let b = register_text s in
    let number = signed_number 2048 2047 n (omega arith) (omega arith) small (omega arith) in
    bound (three (triple a b (signed n))) _ (record { first = a; second = b; third = signed n }) _ (three_read a b (signed n) (register_token d hd) (register_token s hs) (signed_token n small))
    (bound (register a) _ d _ (register_read d hd) (bound (register b) _ s _ (register_read s hs) (bound (immediate 2048 2047 (signed n)) _ n _ (immediate_read 2048 2047 n (signed n) number) refl)))

pub shift_imm_read : (op : ShiftOp) (d s n : ℕ) → d < 32 → s < 32 → n < 32
    → shift_imm_of op (triple (register_text d) (register_text s) (decimal n)) ≡ Ok (instr.ShiftImm op d s n)
unfolding shift_imm_of
shift_imm_read op d s n hd hs hn =
    let a = register_text d in let b = register_text s in
    let number = decimal_number 31 n (omega arith) (omega arith) in
    bound (three (triple a b (decimal n))) _ (record { first = a; second = b; third = decimal n }) _ (three_read a b (decimal n) (register_token d hd) (register_token s hs) (decimal_token n (omega arith)))
    (bound (register a) _ d _ (register_read d hd) (bound (register b) _ s _ (register_read s hs) (bound (immediate 0 31 (decimal n)) _ n _ (immediate_read 0 31 n (decimal n) number) refl)))

pub load_read : (op : LoadOp) (d s n : ℕ) → d < 32 → s < 32 → n < 2 ^ 32 → (n + 2048) % 2 ^ 32 < 4096
    → load_of op (pair (register_text d) (in_parentheses (signed n) (register_text s))) ≡ Ok (instr.Load op d s n)
unfolding load_of
load_read op d s n hd hs small within =
    let a = register_text d in let b = in_parentheses (signed n) (register_text s) in
    bound (two (pair a b)) _ (a, b) _ (two_read a b (register_token d hd) (based_token n s small hs))
    (bound (register a) _ d _ (register_read d hd) (bound (based b) _ (record { imm = n; base = s }) _ (based_read n s small within hs) refl))

pub store_read : (op : StoreOp) (t s n : ℕ) → t < 32 → s < 32 → n < 2 ^ 32 → (n + 2048) % 2 ^ 32 < 4096
    → store_of op (pair (register_text t) (in_parentheses (signed n) (register_text s))) ≡ Ok (instr.Store op s t n)
unfolding store_of
store_read op t s n ht hs small within =
    let a = register_text t in let b = in_parentheses (signed n) (register_text s) in
    bound (two (pair a b)) _ (a, b) _ (two_read a b (register_token t ht) (based_token n s small hs))
    (bound (register a) _ t _ (register_read t ht) (bound (based b) _ (record { imm = n; base = s }) _ (based_read n s small within hs) refl))

pub jalr_read : (d s n : ℕ) → d < 32 → s < 32 → n < 2 ^ 32 → (n + 2048) % 2 ^ 32 < 4096
    → jalr_of (pair (register_text d) (in_parentheses (signed n) (register_text s))) ≡ Ok (instr.Jalr d s n)
unfolding jalr_of
jalr_read d s n hd hs small within =
    let a = register_text d in let b = in_parentheses (signed n) (register_text s) in
    bound (two (pair a b)) _ (a, b) _ (two_read a b (register_token d hd) (based_token n s small hs))
    (bound (register a) _ d _ (register_read d hd) (bound (based b) _ (record { imm = n; base = s }) _ (based_read n s small within hs) refl))

pub amo_read : (op : AmoOp) (order : Order) (d s t : ℕ) → d < 32 → s < 32 → t < 32
    → amo_of op order (triple (register_text d) (register_text t) (in_parentheses [] (register_text s))) ≡ Ok (instr.Amo op d s t order.aq order.rl)
unfolding amo_of
amo_read op order d s t hd hs ht =
    let a = register_text d in let b = register_text t in let c = in_parentheses [] (register_text s) in
    bound (three (triple a b c)) _ (record { first = a; second = b; third = c }) _ (three_read a b c (register_token d hd) (register_token t ht) (indirect_token s hs))
    (bound (register a) _ d _ (register_read d hd) (bound (register b) _ t _ (register_read t ht) (bound (indirect c) _ s _ (indirect_read s hs) refl)))

pub load_reserved_read : (order : Order) (d s : ℕ) → d < 32 → s < 32
    → load_reserved_of order (pair (register_text d) (in_parentheses [] (register_text s))) ≡ Ok (instr.LoadReserved d s order.aq order.rl)
unfolding load_reserved_of
load_reserved_read order d s hd hs =
    let a = register_text d in let b = in_parentheses [] (register_text s) in
    bound (two (pair a b)) _ (a, b) _ (two_read a b (register_token d hd) (indirect_token s hs))
    (bound (register a) _ d _ (register_read d hd) (bound (indirect b) _ s _ (indirect_read s hs) refl))

pub store_conditional_read : (order : Order) (d s t : ℕ) → d < 32 → s < 32 → t < 32
    → store_conditional_of order (triple (register_text d) (register_text t) (in_parentheses [] (register_text s))) ≡ Ok (instr.StoreConditional d s t order.aq order.rl)
unfolding store_conditional_of
store_conditional_read order d s t hd hs ht =
    let a = register_text d in let b = register_text t in let c = in_parentheses [] (register_text s) in
    bound (three (triple a b c)) _ (record { first = a; second = b; third = c }) _ (three_read a b c (register_token d hd) (register_token t ht) (indirect_token s hs))
    (bound (register a) _ d _ (register_read d hd) (bound (register b) _ t _ (register_read t ht) (bound (indirect c) _ s _ (indirect_read s hs) refl)))

pub upper_of_read : (make : ℕ → ℕ → Instr) (d n : ℕ) → d < 32 → n < 2 ^ 32 → n % 2 ^ 12 ≡ 0 → upper_of make (pair (register_text d) (upper_text n)) ≡ Ok (make d n)
unfolding upper_of
upper_of_read make d n hd small whole =
    let a = register_text d in
    bound (two (pair a (upper_text n))) _ (a, upper_text n) _ (two_read a (upper_text n) (register_token d hd) (upper_token n))
    (bound (register a) _ d _ (register_read d hd) (bound (upper (upper_text n)) _ n _ (upper_read n small whole) refl))

pub branch_read : (op : BranchOp) (s t n pc : ℕ) (find : Find) → s < 32 → t < 32 → n < 2 ^ 32 → (n + 4096) % 2 ^ 32 < 8192 → n % 2 ≡ 0
    → branch_of op pc find (triple (register_text s) (register_text t) (signed n)) ≡ Ok (instr.Branch op s t n)
unfolding branch_of
branch_read op s t n pc find hs ht small within whole =
    let a = register_text s in let b = register_text t in
    let number = signed_number 4096 4094 n (omega arith) (omega arith) small (omega arith) in
    bound (three (triple a b (signed n))) _ (record { first = a; second = b; third = signed n }) _ (three_read a b (signed n) (register_token s hs) (register_token t ht) (signed_token n small))
    (bound (register a) _ s _ (register_read s hs) (bound (register b) _ t _ (register_read t ht) (bound (offset 4096 4094 2 pc find (signed n)) _ n _ (offset_read 4096 4094 2 pc n find (signed n) number whole) refl)))

pub jal_read : (d n pc : ℕ) (find : Find) → d < 32 → n < 2 ^ 32 → (n + 1048576) % 2 ^ 32 < 2097152 → n % 2 ≡ 0
    → jal_of pc find (pair (register_text d) (signed n)) ≡ Ok (instr.Jal d n)
unfolding jal_of
jal_read d n pc find hd small within whole =
    let a = register_text d in
    let number = signed_number 1048576 1048574 n (omega arith) (omega arith) small (omega arith) in
    bound (two (pair a (signed n))) _ (a, signed n) _ (two_read a (signed n) (register_token d hd) (signed_token n small))
    (bound (register a) _ d _ (register_read d hd) (bound (offset 1048576 1048574 2 pc find (signed n)) _ n _ (offset_read 1048576 1048574 2 pc n find (signed n) number whole) refl))

pub tbegin_read : (n pc : ℕ) (find : Find) → n < 2 ^ 32 → (n + 4096) % 2 ^ 32 < 8192 → n % 4 ≡ 0 → tbegin_of pc find (signed n) ≡ Ok (instr.TBegin n)
unfolding tbegin_of
tbegin_read n pc find small within whole =
    let number = signed_number 4096 4094 n (omega arith) (omega arith) small (omega arith) in
    bound (last (signed n)) _ (signed n) _ (last_read (signed n) (signed_token n small))
    (bound (offset 4096 4094 4 pc find (signed n)) _ n _ (offset_read 4096 4094 4 pc n find (signed n) number whole) refl)
