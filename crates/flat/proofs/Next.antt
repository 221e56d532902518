-- What is known of a hart whose next word has no cause.
use Rattle.std.proofs.Common.{◌≡◌, ◌≤◌, ◌+◌, ◌%◌, ℕ, arith, cond, Bool, true, false, Option, Some, None, Result, Ok, Err, sym, ◌∙◌, ap, refl, subst}
use Rattle.std.specs.Option.{ok_or}
use Rattle.std.proofs.lemmas.Bool.Decides.{nat_tests}
use Rattle.words.specs.declared.cause.Cause.{Cause}
use Rattle.table.specs.declared.effect.Effect.{Effect}
use Rattle.table.specs.declared.effect.MemoryAct.{MemoryAct}
use Rattle.table.specs.declared.effect.Act.{Act}
use Rattle.table.specs.declared.effect.Act.TheVariants as act
use Rattle.table.specs.Effects.{resolved, resolved_by}
use Rattle.words.specs.Bytes.{bytes_in}
use Rattle.table.specs.Table.{effect_of}
use Rattle.table.specs.Program.{word_at}
use Rattle.flat.specs.State.{Setting, FlatHart}
use Rattle.flat.specs.Causes.{next_of, done_next, act_cause, memory_cause, load_cause, store_cause, unless, ◌>>=◌}

-- of two steps that end well the first does
pub bind_ok : {A B E : Type 0} (r : Result A E) (f : A → Result B E) (y : B) → (r >>= f) ≡ Ok y → (x : A) × (r ≡ Ok x) × (f x ≡ Ok y)
bind_ok (Ok x) f y e = (x, refl, e)
bind_ok (Err c) f y e = cc

-- what there is no cause against stays
pub unless_ok : {A : Type 0} (c : Option Cause) (x y : A) → unless c x ≡ Ok y → (c ≡ None) × (x ≡ y)
unless_ok None x y e = (refl, cc)
unless_ok (Some c) x y e = cc

-- what a hart does next has no cause
pub next_ok : (s : Setting) (h : FlatHart) (e : Effect) → next_of s h ≡ Ok e → act_cause s h e.act ≡ None
next_ok s h e k =
    let a = bind_ok (ok_or (word_at s.segments h.pc) _) _ e k in
    let d = bind_ok (effect_of a.0 h.pc h.regs) _ e a.2 in
    let u = unless_ok (act_cause s h d.0.act) d.0 e d.2 in
    sym (ap (λ (x : Effect). act_cause s h x.act) u.1) ∙ u.0

-- nor has it once it is known whether a conditional store succeeds
resolved_ok : (s : Setting) (h : FlatHart) (b : Bool) (e : Effect) → act_cause s h e.act ≡ None → act_cause s h (resolved b e).act ≡ None
resolved_ok s h b e none = by e.act none b where
  by : (a : Act) → act_cause s h a ≡ None → (b : Bool) → act_cause s h (resolved_by b (record e { act = a }) a).act ≡ None
  by (act.Conditional rd m) none true = none
  by (act.Conditional rd m) none false = refl
  by a none b = none

pub done_ok : (s : Setting) (h : FlatHart) (b : Bool) (d : Effect) → done_next b s h ≡ Ok d → act_cause s h d.act ≡ None
done_ok s h b d k =
    let a = bind_ok (next_of s h) (λ e. Ok (resolved b e)) d k in
    let is : resolved b a.0 ≡ d = cc in
    subst (λ (e : Effect). act_cause s h e.act ≡ None) is (resolved_ok s h b a.0 (next_ok s h a.0 a.1))

-- a load without a cause lies in memory
load_fits : (s : Setting) (a n : ℕ) → load_cause s a n ≡ None → a + n ≤ s.size
load_fits s a n e = grind (arith, nat_tests)

-- and a store
store_fits : (s : Setting) (a n : ℕ) → store_cause s a n ≡ None → a + n ≤ s.size
store_fits s a n e = grind (arith, nat_tests)

-- whichever of the two it is
fits_by : (s : Setting) (a n : ℕ) (b : Bool) → cond b (store_cause s a n) (load_cause s a n) ≡ None → a + n ≤ s.size
fits_by s a n true e = store_fits s a n e
fits_by s a n false e = load_fits s a n e

-- an access without a cause lies in memory
pub memory_fits : (s : Setting) (m : MemoryAct) → memory_cause s m ≡ None → m.addr + bytes_in m.width ≤ s.size
memory_fits s m e = fits_by s m.addr (bytes_in m.width) _ e

-- a load without a cause is at a multiple of its width
load_aligned : (s : Setting) (a n : ℕ) → load_cause s a n ≡ None → a % n ≡ 0
load_aligned s a n e = grind (arith, nat_tests)

-- and a store
store_aligned : (s : Setting) (a n : ℕ) → store_cause s a n ≡ None → a % n ≡ 0
store_aligned s a n e = grind (arith, nat_tests)

-- whichever of the two it is
aligned_by : (s : Setting) (a n : ℕ) (b : Bool) → cond b (store_cause s a n) (load_cause s a n) ≡ None → a % n ≡ 0
aligned_by s a n true e = store_aligned s a n e
aligned_by s a n false e = load_aligned s a n e

-- an access without a cause is at a multiple of its width
pub memory_aligned : (s : Setting) (m : MemoryAct) → memory_cause s m ≡ None → m.addr % bytes_in m.width ≡ 0
memory_aligned s m e = aligned_by s m.addr (bytes_in m.width) _ e
