-- What a hart does next, and what is known of it.
use Rattle.std.proofs.Common.{◌≡◌, ◌≢◌, ℕ, ◌%◌, Bool, true, false, cond, Option, Some, None, is_some, is_none, Result, Ok, Err, refl, sym, ap, ◌∙◌}
use Rattle.std.specs.Prelude.{◌==◌, not}
use Rattle.std.specs.Option.{ok_or, option_map, unwrap_or}
use Rattle.words.specs.declared.cause.Cause.{Cause}
use Rattle.words.specs.declared.cause.Cause.TheVariants.{FetchOutside, Breakpoint, CallInTransaction, TooDeep, OutsideTransaction, BadCall}
use Rattle.words.specs.Bytes.{bytes_in}
use Rattle.table.specs.Effects.{resolved}
use Rattle.table.specs.Table.{effect_of}
use Rattle.table.specs.Program.{word_at}
use Rattle.table.specs.declared.effect.Effect.{Effect}
use Rattle.table.specs.declared.effect.MemoryAct.{MemoryAct}
use Rattle.table.specs.declared.effect.Act.{Act}
use Rattle.table.specs.declared.effect.Act.TheVariants as act
use Rattle.flat.specs.State.{Setting, FlatHart, Tx as FlatTx}
use Rattle.flat.specs.Causes.{next_of, done_next, effect_or_cause, act_cause, depth_of, is_known_call, unless, ◌>>=◌}
use Rattle.flat.specs.Reasons.{Past}
use Rattle.flat.proofs.Next.{bind_ok, unless_ok, next_ok, done_ok, memory_aligned}
use Rattle.protocol.specs.Hart.{Hart, Transaction, flat_hart, flat_tx}
use Rattle.isolation.proofs.Machine.Invariant.{HartIs, TxIs}

-- One hart for another

some_none : {A : Type 0} (o : Option A) → is_none o ≡ not (is_some o)
some_none None = refl
some_none (Some x) = refl

-- an act's cause depends on registers, depth and place alone
cause_same : (s : Setting) (h k : FlatHart) (does : Act) → h.regs ≡ k.regs → depth_of h.tx ≡ depth_of k.tx → is_some h.tx ≡ is_some k.tx → act_cause s h does ≡ act_cause s k does
cause_same s h k act.Nothing regs depth place = refl
cause_same s h k (act.Memory m) regs depth place = refl
cause_same s h k (act.Conditional rd m) regs depth place = refl
cause_same s h k (act.Begin p) regs depth place = λ i. cond (depth i == 255) (Some TooDeep) None
cause_same s h k act.Commit regs depth place =
    let none : is_none h.tx ≡ is_none k.tx = some_none h.tx ∙ ap not place ∙ sym (some_none k.tx) in
    λ i. cond (none i) (Some OutsideTransaction) None
cause_same s h k act.Abort regs depth place =
    let none : is_none h.tx ≡ is_none k.tx = some_none h.tx ∙ ap not place ∙ sym (some_none k.tx) in
    λ i. cond (none i) (Some OutsideTransaction) None
cause_same s h k act.Call regs depth place = λ i. cond (place i) (Some CallInTransaction) (cond (not (is_known_call (regs i))) (Some BadCall) None)
cause_same s h k act.Break regs depth place = λ i. cond (place i) (Some CallInTransaction) (Some Breakpoint)

unless_same : (s : Setting) (h k : FlatHart) (r : Result Effect Cause) → h.regs ≡ k.regs → depth_of h.tx ≡ depth_of k.tx → is_some h.tx ≡ is_some k.tx
    → (r >>= (λ e. unless (act_cause s h e.act) e)) ≡ (r >>= (λ e. unless (act_cause s k e.act) e))
unless_same s h k (Err c) regs depth place = refl
unless_same s h k (Ok e) regs depth place = ap (λ c. unless c e) (cause_same s h k e.act regs depth place)

word_same : (s : Setting) (h k : FlatHart) (r : Result ℕ Cause) → h.regs ≡ k.regs → h.pc ≡ k.pc → depth_of h.tx ≡ depth_of k.tx → is_some h.tx ≡ is_some k.tx
    → (r >>= (λ w. effect_or_cause s h w)) ≡ (r >>= (λ w. effect_or_cause s k w))
word_same s h k (Err c) regs pc depth place = refl
word_same s h k (Ok w) regs pc depth place =
    unless_same s h k (effect_of w h.pc h.regs) regs depth place
    ∙ (λ i. effect_of w (pc i) (regs i) >>= (λ e. unless (act_cause s k e.act) e))

-- so does what a hart does next, and on the pc
pub next_same : (s : Setting) (h k : FlatHart) → h.regs ≡ k.regs → h.pc ≡ k.pc → depth_of h.tx ≡ depth_of k.tx → is_some h.tx ≡ is_some k.tx → next_of s h ≡ next_of s k
next_same s h k regs pc depth place =
    word_same s h k (ok_or (word_at s.segments h.pc) FetchOutside) regs pc depth place
    ∙ ap (λ a. ok_or (word_at s.segments a) FetchOutside >>= (λ w. effect_or_cause s k w)) pc

depth_is : (o : Option Transaction) (u : Option FlatTx) → TxIs o u → depth_of u ≡ depth_of (option_map flat_tx o)
depth_is None None same = refl
depth_is None (Some u) same = absurd same
depth_is (Some t) None same = absurd same
depth_is (Some t) (Some u) same = same.depth

place_is : (o : Option Transaction) (u : Option FlatTx) → TxIs o u → is_some u ≡ is_some (option_map flat_tx o)
place_is None None same = refl
place_is None (Some u) same = absurd same
place_is (Some t) None same = absurd same
place_is (Some t) (Some u) same = refl

-- a hart does next what the flat machine's does
pub next_is : (s : Setting) (h : Hart) (f : FlatHart) (p : Past) → HartIs s h f p → next_of s f ≡ next_of s (flat_hart h)
next_is s h f p is = next_same s f (flat_hart h) is.regs is.pc (depth_is h.tx f.tx is.tx) (place_is h.tx f.tx is.tx)

-- What a hart has done

-- what it does next, where it is known whether a conditional store succeeds
pub next_done : (s : Setting) (h : FlatHart) (e : Effect) (b : Bool) → next_of s h ≡ Ok e → done_next b s h ≡ Ok (resolved b e)
next_done s h e b k = ap (λ z. z >>= (λ d. Ok (resolved b d))) k

-- and the other way round
pub done_from : (s : Setting) (h : FlatHart) (d : Effect) (b : Bool) → done_next b s h ≡ Ok d → (e : Effect) × (next_of s h ≡ Ok e) × (resolved b e ≡ d)
done_from s h d b k =
    let a = bind_ok (next_of s h) (λ e. Ok (resolved b e)) d k in
    let is : resolved b a.0 ≡ d = cc in
    (a.0, a.1, is)

-- What is known of what a hart does next

word_ok : {E : Type 0} (o : Option ℕ) (c : E) (w : ℕ) → ok_or o c ≡ Ok w → o ≡ Some w
word_ok None c w e = cc
word_ok (Some v) c w e = cc

-- its word, and that the word does it
pub word_next : (s : Setting) (h : FlatHart) (e : Effect) → next_of s h ≡ Ok e → (w : ℕ) × (word_at s.segments h.pc ≡ Some w) × (effect_of w h.pc h.regs ≡ Ok e)
word_next s h e ok =
    let a = bind_ok (ok_or (word_at s.segments h.pc) FetchOutside) (λ w. effect_or_cause s h w) e ok in
    let d = bind_ok (effect_of a.0 h.pc h.regs) (λ e. unless (act_cause s h e.act) e) e a.2 in
    (a.0, word_ok (word_at s.segments h.pc) FetchOutside a.0 a.1, d.1 ∙ ap (λ x. Ok x) (unless_ok (act_cause s h d.0.act) d.0 e d.2).1)

-- it is fetched
pub fetched : (s : Setting) (h : FlatHart) (e : Effect) → next_of s h ≡ Ok e → word_at s.segments h.pc ≡ Some (unwrap_or (word_at s.segments h.pc) 0)
fetched s h e ok = let a = word_next s h e ok in a.1 ∙ ap (λ o. Some (unwrap_or o 0)) (sym a.1)

-- an act that it has is one without a cause
act_ok : (s : Setting) (h : FlatHart) (e : Effect) (does : Act) → next_of s h ≡ Ok e → e.act ≡ does → act_cause s h does ≡ None
act_ok s h e does ok is = ap (act_cause s h) (sym is) ∙ next_ok s h e ok

-- an access is aligned
pub aligned_done : (s : Setting) (h : FlatHart) (e : Effect) (b : Bool) (m : MemoryAct) → done_next b s h ≡ Ok e → e.act ≡ act.Memory m → m.addr % bytes_in m.width ≡ 0
aligned_done s h e b m ok is = memory_aligned s m (ap (act_cause s h) (sym is) ∙ done_ok s h b e ok)

none_due : (b : Bool) (c : Cause) → cond b (Some c) None ≡ None → b ≡ false
none_due true c e = cc
none_due false c e = refl

not_none : {A : Type 0} (o : Option A) → is_none o ≡ false → o ≢ None
not_none None e = cc
not_none (Some x) e = λ n. cc

-- a transaction that is committed runs
pub commit_inside : (s : Setting) (h : FlatHart) (e : Effect) → next_of s h ≡ Ok e → e.act ≡ act.Commit → h.tx ≢ None
commit_inside s h e ok is = not_none h.tx (none_due (is_none h.tx) OutsideTransaction (act_ok s h e act.Commit ok is))

-- so does one that is rolled back
pub abort_inside : (s : Setting) (h : FlatHart) (e : Effect) → next_of s h ≡ Ok e → e.act ≡ act.Abort → h.tx ≢ None
abort_inside s h e ok is = not_none h.tx (none_due (is_none h.tx) OutsideTransaction (act_ok s h e act.Abort ok is))

some_due : (b : Bool) (c d : Cause) → cond b (Some c) (Some d) ≢ None
some_due true c d e = cc
some_due false c d e = cc

-- a breakpoint always has a cause
pub no_break : (s : Setting) (h : FlatHart) (e : Effect) → next_of s h ≡ Ok e → e.act ≢ act.Break
no_break s h e ok is = some_due (is_some h.tx) CallInTransaction Breakpoint (act_ok s h e act.Break ok is)
