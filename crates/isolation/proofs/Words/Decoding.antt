-- What a retired word tells the history, read off its act.
use Rattle.std.proofs.Common.{◌≡◌, ℕ, ◌+◌, ◌-◌, Bool, true, false, cond, not, Option, Some, None, List, Result, Ok, Err, refl, sym, ap, subst, ◌∙◌, ◌%◌, ◌/◌, ◌*◌}
use Rattle.std.specs.Prelude.{◌==◌, ◌&&◌}
use Rattle.std.specs.Option.{unwrap_or, option_map}
use Rattle.words.specs.declared.entry.Access.{Access}
use Rattle.words.specs.declared.cause.Cause.{Cause}
use Rattle.table.specs.declared.instr.Instr.{Instr}
use Rattle.table.specs.declared.instr.Instr.TheVariants.{Lui, Auipc, Jal, Jalr, Branch, Load, Store, OpImm, ShiftImm, Op, Amo, LoadReserved, StoreConditional, Fence, Ecall, Ebreak, TBegin, TCommit, TAbort}
use Rattle.table.specs.declared.effect.Effect.{Effect}
use Rattle.table.specs.declared.effect.Load.{Load as Loads}
use Rattle.table.specs.declared.effect.Act.{Act}
use Rattle.table.specs.declared.effect.Act.TheVariants as act
use Rattle.words.specs.Registers.{reg}
use Rattle.table.specs.Effects.{jumps, does, resolved, resolved_by}
use Rattle.table.specs.Numbers.{wrap}
use Rattle.table.specs.Program.{word_at}
use Rattle.table.specs.Table.{branch_row, decoded, effect_by, effect_of}
use Rattle.table.proofs.Legal.{effect_of_legal, effect_of_illegal}
use Rattle.flat.specs.State.{Setting, FlatHart}
use Rattle.flat.specs.Causes.{next_of, done_next}
use Rattle.flat.specs.Reasons.{Past, past_begun, past_retired, takes_stamp}
use Rattle.flat.specs.Reservations.{block_of, reserved_by, IsConditional}
use Rattle.isolation.proofs.Words.NextWord.{word_next, done_from}

-- a hart's past after an act
abbrev pub past_after : ℕ → ℕ → Act → Past → Past
past_after taken i act.Nothing p = record p { was_refused = false }
past_after taken i (act.Memory m) p = record p { was_refused = false }
past_after taken i (act.Conditional rd m) p = record p { was_refused = false }
past_after taken i (act.Begin a) p = cond (p.depth == 0) (past_begun taken i p) (record p { depth = p.depth + 1; was_refused = false })
past_after taken i act.Commit p = record p { depth = p.depth - 1; was_refused = false }
past_after taken i act.Abort p = record p { was_refused = false }
past_after taken i act.Call p = record p { was_refused = false }
past_after taken i act.Break p = record p { was_refused = false }

-- whether an act takes a new stamp
abbrev pub stamp_by : Act → Past → Bool
stamp_by act.Nothing p = false
stamp_by (act.Memory m) p = false
stamp_by (act.Conditional rd m) p = false
stamp_by (act.Begin a) p = (p.depth == 0) && not p.was_aborted
stamp_by act.Commit p = false
stamp_by act.Abort p = false
stamp_by act.Call p = false
stamp_by act.Break p = false

-- whether a load reserves its block
abbrev pub reserves : Option Loads → Bool
reserves None = false
reserves (Some l) = l.reserves

-- what an act makes of its hart's reservation
abbrev pub reserved_act : Act → ℕ → Option Access → Option ℕ → Option ℕ
reserved_act act.Nothing depth l r = r
reserved_act (act.Memory m) depth l r = cond (reserves m.load) (option_map block_of l) r
reserved_act (act.Conditional rd m) depth l r = None
reserved_act (act.Begin p) depth l r = cond (depth == 0) None r
reserved_act act.Commit depth l r = cond (depth == 1) None r
reserved_act act.Abort depth l r = r
reserved_act act.Call depth l r = r
reserved_act act.Break depth l r = r

abbrev pub is_conditional : Act → Bool
is_conditional act.Nothing = false
is_conditional (act.Memory m) = false
is_conditional (act.Conditional rd m) = true
is_conditional (act.Begin p) = false
is_conditional act.Commit = false
is_conditional act.Abort = false
is_conditional act.Call = false
is_conditional act.Break = false

-- an act tells what its instruction does
record Tells (x : Instr) (a : Act) : Type 0 where
  past : (taken i : ℕ) (p : Past) → past_retired taken i (Some x) p ≡ past_after taken i a p
  stamp : (p : Past) → takes_stamp (Some x) p ≡ stamp_by a p
  reserved : (depth : ℕ) (l : Option Access) (r : Option ℕ) → reserved_by (Some x) depth l r ≡ reserved_act a depth l r
  conditional : IsConditional (Some x) → is_conditional a ≡ true

-- the effect of an instruction, by its act
done : (x : Instr) (pc : ℕ) (w : Option (ℕ × ℕ)) (a : Act) (e : Effect) → does pc w a ≡ Ok e → Tells x a → Tells x e.act
done x pc w a e is t = subst (Tells x) act_is t where
  act_is : a ≡ e.act
  act_is = ap (λ (o : Result Effect Cause). elim o as (λ o. Act) [ Ok d ↦ d.act | Err c ↦ a ]) is

-- a jump that is taken
jumped : (x : Instr) (target : ℕ) (w : Option (ℕ × ℕ)) (b : Bool) (e : Effect) (c : Cause) → cond b (Ok (record { next = target; write = w; act = act.Nothing })) (Err c) ≡ Ok e → Tells x act.Nothing → Tells x e.act
jumped x target w true e c is t = subst (Tells x) act_is t where
  act_is : act.Nothing ≡ e.act
  act_is = ap (λ (o : Result Effect Cause). elim o as (λ o. Act) [ Ok d ↦ d.act | Err c ↦ act.Nothing ]) is
jumped x target w false e c is t = cc

-- a branch
branched : (x : Instr) (pc target : ℕ) (b : Bool) (e : Effect) → cond b (jumps target None) (does pc None act.Nothing) ≡ Ok e → Tells x act.Nothing → Tells x e.act
branched x pc target true e is t = jumped x target None (target % 4 == 0) e _ is t
branched x pc target false e is t = done x pc None act.Nothing e is t

tells : (x : Instr) (pc : ℕ) (regs : List ℕ) (e : Effect) → effect_by x pc regs ≡ Ok e → Tells x e.act
tells (Lui d i) pc regs e is = done (Lui d i) pc _ _ e is (record { past = λ t i p. refl; stamp = λ p. refl; reserved = λ d l r. refl; conditional = λ c. absurd c })
tells (Auipc d i) pc regs e is = done (Auipc d i) pc _ _ e is (record { past = λ t i p. refl; stamp = λ p. refl; reserved = λ d l r. refl; conditional = λ c. absurd c })
tells (Jal d i) pc regs e is = jumped (Jal d i) _ _ (wrap (pc + i) % 4 == 0) e _ is (record { past = λ t i p. refl; stamp = λ p. refl; reserved = λ d l r. refl; conditional = λ c. absurd c })
tells (Jalr d s i) pc regs e is = jumped (Jalr d s i) _ _ (wrap (reg regs s + i) / 2 * 2 % 4 == 0) e _ is (record { past = λ t i p. refl; stamp = λ p. refl; reserved = λ d l r. refl; conditional = λ c. absurd c })
tells (Branch op s t i) pc regs e is = branched (Branch op s t i) pc _ ((branch_row op).test (reg regs s) (reg regs t)) e is (record { past = λ t i p. refl; stamp = λ p. refl; reserved = λ d l r. refl; conditional = λ c. absurd c })
tells (Load op d s i) pc regs e is = done (Load op d s i) pc _ _ e is (record { past = λ t i p. refl; stamp = λ p. refl; reserved = λ d l r. refl; conditional = λ c. absurd c })
tells (Store op s t i) pc regs e is = done (Store op s t i) pc _ _ e is (record { past = λ t i p. refl; stamp = λ p. refl; reserved = λ d l r. refl; conditional = λ c. absurd c })
tells (OpImm op d s i) pc regs e is = done (OpImm op d s i) pc _ _ e is (record { past = λ t i p. refl; stamp = λ p. refl; reserved = λ d l r. refl; conditional = λ c. absurd c })
tells (ShiftImm op d s k) pc regs e is = done (ShiftImm op d s k) pc _ _ e is (record { past = λ t i p. refl; stamp = λ p. refl; reserved = λ d l r. refl; conditional = λ c. absurd c })
tells (Op op d s t) pc regs e is = done (Op op d s t) pc _ _ e is (record { past = λ t i p. refl; stamp = λ p. refl; reserved = λ d l r. refl; conditional = λ c. absurd c })
tells (Amo op d s t a r) pc regs e is = done (Amo op d s t a r) pc _ _ e is (record { past = λ t i p. refl; stamp = λ p. refl; reserved = λ d l r. refl; conditional = λ c. absurd c })
tells (LoadReserved d s a r) pc regs e is = done (LoadReserved d s a r) pc _ _ e is (record { past = λ t i p. refl; stamp = λ p. refl; reserved = λ d l r. refl; conditional = λ c. absurd c })
tells (StoreConditional d s t a r) pc regs e is = done (StoreConditional d s t a r) pc _ _ e is (record { past = λ t i p. refl; stamp = λ p. refl; reserved = λ d l r. refl; conditional = λ c. refl })
tells (Fence r) pc regs e is = done (Fence r) pc _ _ e is (record { past = λ t i p. refl; stamp = λ p. refl; reserved = λ d l r. refl; conditional = λ c. absurd c })
tells Ecall pc regs e is = done Ecall pc _ _ e is (record { past = λ t i p. refl; stamp = λ p. refl; reserved = λ d l r. refl; conditional = λ c. absurd c })
tells Ebreak pc regs e is = done Ebreak pc _ _ e is (record { past = λ t i p. refl; stamp = λ p. refl; reserved = λ d l r. refl; conditional = λ c. absurd c })
tells (TBegin i) pc regs e is = done (TBegin i) pc _ _ e is (record { past = λ t i p. refl; stamp = λ p. refl; reserved = λ d l r. refl; conditional = λ c. absurd c })
tells TCommit pc regs e is = done TCommit pc _ _ e is (record { past = λ t i p. refl; stamp = λ p. refl; reserved = λ d l r. refl; conditional = λ c. absurd c })
tells TAbort pc regs e is = done TAbort pc _ _ e is (record { past = λ t i p. refl; stamp = λ p. refl; reserved = λ d l r. refl; conditional = λ c. absurd c })

-- a word that has an effect is an instruction, whose act it tells
record WordTells (w : ℕ) (a : Act) : Type 0 where
  instr : Instr
  is : decoded w ≡ Some instr
  tells : Tells instr a

word_tells : (w pc : ℕ) (regs : List ℕ) (e : Effect) → effect_of w pc regs ≡ Ok e → WordTells w e.act
word_tells w pc regs e ok = by_word (decoded w) refl where
  by_word : (o : Option Instr) → decoded w ≡ o → WordTells w e.act
  by_word None none = let ill = sym (effect_of_illegal w pc regs none) ∙ ok in cc
  by_word (Some x) is = record { instr = x; is = is; tells = tells x pc regs e (sym (effect_of_legal w x pc regs is) ∙ ok) }

next_tells : (s : Setting) (h : FlatHart) (e : Effect) → next_of s h ≡ Ok e → WordTells (unwrap_or (word_at s.segments h.pc) 0) e.act
next_tells s h e ok =
    let a = word_next s h e ok in
    subst (λ w. WordTells w e.act) (ap (λ o. unwrap_or o 0) (sym a.1)) (word_tells a.0 h.pc h.regs e a.2)

-- what a word makes of a reservation its act does, and only SC is a conditional store
pub record Reserves (x : Option Instr) (a : Act) : Type 0 where
  pub reserved : (depth : ℕ) (l : Option Access) (r : Option ℕ) → reserved_by x depth l r ≡ reserved_act a depth l r
  pub conditional : IsConditional x → is_conditional a ≡ true

pub next_reserves : (s : Setting) (h : FlatHart) (e : Effect) → next_of s h ≡ Ok e → Reserves (decoded (unwrap_or (word_at s.segments h.pc) 0)) e.act
next_reserves s h e ok = let t = next_tells s h e ok in subst (λ o. Reserves o e.act) (sym t.is) (record { reserved = t.tells.reserved; conditional = t.tells.conditional })

-- what the word at a hart's pc tells of its past is what its act does
decoded_past : (s : Setting) (h : FlatHart) (e : Effect) → next_of s h ≡ Ok e
    → (taken i : ℕ) (p : Past) → past_retired taken i (decoded (unwrap_or (word_at s.segments h.pc) 0)) p ≡ past_after taken i e.act p
decoded_past s h e ok taken i p = let t = next_tells s h e ok in ap (λ o. past_retired taken i o p) t.is ∙ t.tells.past taken i p

-- and so whether it takes a stamp
decoded_stamp : (s : Setting) (h : FlatHart) (e : Effect) → next_of s h ≡ Ok e
    → (p : Past) → takes_stamp (decoded (unwrap_or (word_at s.segments h.pc) 0)) p ≡ stamp_by e.act p
decoded_stamp s h e ok p = let t = next_tells s h e ok in ap (λ o. takes_stamp o p) t.is ∙ t.tells.stamp p

-- A conditional store tells the same whether it succeeds or not

resolved_past : (b : Bool) (e : Effect) (taken i : ℕ) (p : Past) → past_after taken i e.act p ≡ past_after taken i (resolved b e).act p
resolved_past b e taken i p = by e.act b where
  by : (a : Act) (b : Bool) → past_after taken i a p ≡ past_after taken i (resolved_by b (record e { act = a }) a).act p
  by (act.Conditional rd m) true = refl
  by (act.Conditional rd m) false = refl
  by a b = refl

resolved_stamp : (b : Bool) (e : Effect) (p : Past) → stamp_by e.act p ≡ stamp_by (resolved b e).act p
resolved_stamp b e p = by e.act b where
  by : (a : Act) (b : Bool) → stamp_by a p ≡ stamp_by (resolved_by b (record e { act = a }) a).act p
  by (act.Conditional rd m) true = refl
  by (act.Conditional rd m) false = refl
  by a b = refl

-- so both hold of what a hart has done
pub done_past : (s : Setting) (h : FlatHart) (b : Bool) (d : Effect) → done_next b s h ≡ Ok d
    → (taken i : ℕ) (p : Past) → past_retired taken i (decoded (unwrap_or (word_at s.segments h.pc) 0)) p ≡ past_after taken i d.act p
done_past s h b d ok taken i p =
    let e = done_from s h d b ok in
    decoded_past s h e.0 e.1 taken i p ∙ (resolved_past b e.0 taken i p ∙ ap (λ (z : Effect). past_after taken i z.act p) e.2)

pub done_stamp : (s : Setting) (h : FlatHart) (b : Bool) (d : Effect) → done_next b s h ≡ Ok d
    → (p : Past) → takes_stamp (decoded (unwrap_or (word_at s.segments h.pc) 0)) p ≡ stamp_by d.act p
done_stamp s h b d ok p =
    let e = done_from s h d b ok in
    decoded_stamp s h e.0 e.1 p ∙ (resolved_stamp b e.0 p ∙ ap (λ (z : Effect). stamp_by z.act p) e.2)
