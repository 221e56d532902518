-- What a word does to memory is a load, a store, or both.
use Rattle.std.proofs.Common.{◌≡◌, refl, ℕ, ◌%◌, Bool, true, false, cond, Option, Some, None, Result, Ok, Err, List, subst}
use Rattle.std.specs.Prelude.{◌==◌, IsSome}
use Rattle.std.specs.Option.{ok_or}
use Rattle.words.specs.declared.cause.Cause.{Cause}
use Rattle.words.specs.declared.cause.Cause.TheVariants.{FetchOutside, JumpMisaligned}
use Rattle.table.specs.declared.effect.Effect.{Effect}
use Rattle.table.specs.declared.effect.Load.{Load}
use Rattle.table.specs.declared.effect.Store.{Store}
use Rattle.table.specs.declared.effect.Act.{Act}
use Rattle.table.specs.declared.effect.Act.TheVariants as act
use Rattle.table.specs.declared.instr.Instr.{Instr}
use Rattle.table.specs.declared.instr.Instr.TheVariants.{Jal, Jalr, Branch, StoreConditional}
use Rattle.words.specs.Registers.{reg}
use Rattle.table.specs.Effects.{jumps, does, resolved, resolved_by}
use Rattle.table.specs.Table.{branch_row, decoded, effect_by, effect_if, effect_of}
use Rattle.table.specs.Program.{word_at}
use Rattle.flat.specs.State.{Setting, FlatHart}
use Rattle.flat.specs.Causes.{next_of, done_next, act_cause}
use Rattle.flat.proofs.Next.{bind_ok, unless_ok}

-- a load, a store, or both
abbrev pub LoadsOrStores : Option Load → Option Store → Type 0
LoadsOrStores None None = ⊥
LoadsOrStores None (Some s) = Unit {0}
LoadsOrStores (Some l) s = Unit {0}

-- what an act does to memory is one
abbrev pub IsUseful : Act → Type 0
IsUseful (act.Memory m) = LoadsOrStores m.load m.store
IsUseful (act.Conditional rd m) = IsSome m.store
IsUseful does = Unit {0}

-- if there is an effect, its act is
abbrev HasUse : Result Effect Cause → Type 0
HasUse (Ok e) = IsUseful e.act
HasUse (Err c) = Unit {0}

-- a jump does nothing to memory
jump_useful : (t : ℕ) (write : Option (ℕ × ℕ)) → HasUse (jumps t write)
jump_useful t write = by (t % 4 == 0) where
  by : (b : Bool) → HasUse (cond b (Ok (record { next = t; write = write; act = act.Nothing })) (Err JumpMisaligned))
  by true = tt
  by false = tt

-- nor does a branch
branch_useful : (b : Bool) (t pc : ℕ) → HasUse (cond b (jumps t None) (does pc None act.Nothing))
branch_useful true t pc = jump_useful t None
branch_useful false t pc = tt

-- instruction by instruction
by_instr : (i : Instr) (pc : ℕ) (x : List ℕ) → HasUse (effect_by i pc x)
by_instr (Jal rd i) pc x = jump_useful _ _
by_instr (Jalr rd rs1 i) pc x = jump_useful _ _
by_instr (Branch op rs1 rs2 i) pc x = branch_useful ((branch_row op).test (reg x rs1) (reg x rs2)) _ _
by_instr (StoreConditional rd rs1 rs2 aq rl) pc x = refl
by_instr i pc x = tt

if_legal : (o : Option Instr) (pc : ℕ) (x : List ℕ) → HasUse (effect_if o pc x)
if_legal None pc x = tt
if_legal (Some i) pc x = by_instr i pc x

useful_of : (w pc : ℕ) (x : List ℕ) → HasUse (effect_of w pc x)
unfolding effect_of
useful_of w pc x = if_legal (decoded w) pc x

-- what a hart does next
pub next_useful : (s : Setting) (h : FlatHart) (e : Effect) → next_of s h ≡ Ok e → IsUseful e.act
next_useful s h e k =
    let a = bind_ok (ok_or (word_at s.segments h.pc) FetchOutside) _ e k in
    let d = bind_ok (effect_of a.0 h.pc h.regs) _ e a.2 in
    let u = unless_ok (act_cause s h d.0.act) d.0 e d.2 in
    subst (λ (x : Effect). IsUseful x.act) u.1 (subst HasUse d.1 (useful_of a.0 h.pc h.regs))

-- what stores does one of them
stores : (l : Option Load) (s : Option Store) → IsSome s → LoadsOrStores l s
stores None (Some s) some = tt
stores None None some = cc
stores (Some l) s some = tt

-- and once it is known whether a conditional store succeeds
resolved_useful : (b : Bool) (e : Effect) → IsUseful e.act → IsUseful (resolved b e).act
resolved_useful b e some = by e.act some b where
  by : (a : Act) → IsUseful a → (b : Bool) → IsUseful (resolved_by b (record e { act = a }) a).act
  by (act.Conditional rd m) some true = stores m.load m.store some
  by (act.Conditional rd m) some false = tt
  by a some b = some

pub done_useful : (s : Setting) (h : FlatHart) (b : Bool) (d : Effect) → done_next b s h ≡ Ok d → IsUseful d.act
done_useful s h b d k =
    let a = bind_ok (next_of s h) (λ e. Ok (resolved b e)) d k in
    let is : resolved b a.0 ≡ d = cc in
    subst (λ (e : Effect). IsUseful e.act) is (resolved_useful b a.0 (next_useful s h a.0 a.1))
