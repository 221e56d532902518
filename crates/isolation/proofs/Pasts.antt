-- What the entries so far say of a hart fits the flat state: how deep it is in transactions. And a hart in a transaction runs.
use Rattle.std.proofs.Common.{◌≡◌, ◌≢◌, ◌<◌, ◌+◌, ◌-◌, ℕ, Bool, true, false, cond, not, Option, Some, None, Ok, [], ◌∷◌, refl, sym, ap, ◌∙◌, subst, arith}
use Rattle.std.specs.Prelude.{◌==◌, is_some, IsSome}
use Rattle.std.specs.Option.{unwrap_or}
use Rattle.words.specs.First.{first}
use Rattle.words.specs.declared.cause.Cause.TheVariants.{CallInTransaction, BadCall}
use Rattle.words.specs.declared.cause.Status.TheVariants.{Running}
use Rattle.words.specs.declared.entry.Entry.{Entry}
use Rattle.words.specs.declared.entry.Entry.TheVariants.{Retire, Abort, Trap, Refuse, Spill}
use Rattle.table.specs.declared.effect.Effect.{Effect}
use Rattle.table.specs.declared.effect.MemoryAct.{MemoryAct}
use Rattle.table.specs.declared.effect.Load.{Load}
use Rattle.table.specs.declared.effect.Act.{Act}
use Rattle.table.specs.declared.effect.Act.TheVariants as act
use Rattle.table.specs.Table.{decoded}
use Rattle.flat.specs.State.{Setting, Flat, FlatHart, Tx, flat_view}
use Rattle.flat.specs.Causes.{done_next, act_cause, depth_of, is_known_call}
use Rattle.flat.specs.Effects.{tx_by, tx_got, tx_put, put_by, hart_after, status_by}
use Rattle.flat.specs.Steps.{Carries, Retires, hart_of}
use Rattle.flat.specs.Reasons.{Past, History, told, past_begun, past_retired}
use Rattle.flat.proofs.Maps.{one_number, two_numbers, put_there, put_elsewhere}
use Rattle.flat.proofs.Next.{done_ok}
use Rattle.flat.proofs.Entries.{retired_by, aborted_by, hart_retired, hart_back, others_stay, setting_stays}
use Rattle.flat.proofs.Grows.{some_none}
use Rattle.isolation.proofs.Words.Decoding.{past_after, done_past}

-- a hart's depth is that of the entries, and in a transaction it runs
pub record Agrees (s : Setting) (i : ℕ) (x : FlatHart) (p : Past) : Type 0 where
  pub depth : depth_of x.tx ≡ p.depth
  pub inside : IsSome x.tx → (i < s.count) × (x.status ≡ Running)

-- One act

-- a hart that has retired was not refused since
pub not_refused : (taken i : ℕ) (a : Act) (p : Past) → (past_after taken i a p).was_refused ≡ false
not_refused taken i (act.Begin x) p = by (p.depth == 0) where
  by : (b : Bool) → (cond b (past_begun taken i p) (record p { depth = p.depth + 1; was_refused = false })).was_refused ≡ false
  by true = refl
  by false = refl
not_refused taken i a p = refl

-- a begin
begun_depth : (taken i : ℕ) (p : Past) → p.depth + 1 ≡ (cond (p.depth == 0) (past_begun taken i p) (record p { depth = p.depth + 1; was_refused = false })).depth
begun_depth taken i p = by (p.depth == 0) refl where
  by : (b : Bool) → (p.depth == 0) ≡ b → p.depth + 1 ≡ (cond b (past_begun taken i p) (record p { depth = p.depth + 1; was_refused = false })).depth
  by true e = let none = one_number p.depth 0 e in omega (arith, none)
  by false e = refl

-- an access
access_depth : (t : Tx) (m : MemoryAct) (l : Option Load) (v : Option ℕ) → (tx_put (tx_got t m l) m v).depth ≡ t.depth
access_depth t m None None = refl
access_depth t m None (Some v) = refl
access_depth t m (Some l) None = refl
access_depth t m (Some l) (Some v) = refl

-- a commit
commit_depth : (t : Tx) (n : ℕ) → t.depth ≡ n → depth_of (cond (t.depth == 1) None (Some (record t { depth = t.depth - 1 }))) ≡ n - 1
commit_depth t n e = by (t.depth == 1) refl where
  by : (b : Bool) → (t.depth == 1) ≡ b → depth_of (cond b None (Some (record t { depth = t.depth - 1 }))) ≡ n - 1
  by true k = let one = one_number t.depth 1 k in omega (arith, one, e)
  by false k = ap (λ d. d - 1) e

depth_after : (view : ℕ → ℕ) (h : FlatHart) (tx : Option Tx) (taken i : ℕ) (a : Act) (p : Past) → depth_of tx ≡ p.depth → depth_of (tx_by view h tx a) ≡ (past_after taken i a p).depth
depth_after view h None taken i (act.Begin x) p e = let more = begun_depth taken i p in omega (arith, e) ∙ more
depth_after view h None taken i act.Commit p e = omega (arith, e)
depth_after view h None taken i act.Nothing p e = e
depth_after view h None taken i (act.Memory m) p e = e
depth_after view h None taken i (act.Conditional rd m) p e = e
depth_after view h None taken i act.Abort p e = e
depth_after view h None taken i act.Call p e = e
depth_after view h None taken i act.Break p e = e
depth_after view h (Some t) taken i (act.Begin x) p e = ap (λ d. d + 1) e ∙ begun_depth taken i p
depth_after view h (Some t) taken i act.Commit p e = commit_depth t p.depth e
depth_after view h (Some t) taken i act.Nothing p e = e
depth_after view h (Some t) taken i (act.Memory m) p e = access_depth t m m.load (put_by view m) ∙ e
depth_after view h (Some t) taken i (act.Conditional rd m) p e = e
depth_after view h (Some t) taken i act.Abort p e = e
depth_after view h (Some t) taken i act.Call p e = e
depth_after view h (Some t) taken i act.Break p e = e

-- an act after which a hart is in a transaction is no exit
runs_after : (s : Setting) (h : FlatHart) (view : ℕ → ℕ) (a : Act) → act_cause s h a ≡ None → IsSome (tx_by view h h.tx a) → status_by h.regs a ≡ Running
runs_after s h view act.Call e k = by h.tx e k where
  by : (tx : Option Tx) → first ((is_some tx, CallInTransaction) ∷ (not (is_known_call h.regs), BadCall) ∷ []) ≡ None → IsSome (tx_by view h tx act.Call) → status_by h.regs act.Call ≡ Running
  by None e k = cc
  by (Some t) e k = cc
runs_after s h view a e k = refl

-- One entry

-- a retired word tells the history what its act does
pub retired_past : (f g : Flat) (i word : ℕ) (b : Bool) (d : Effect) (e : Entry) (h : History) → done_next b f.setting (f.hart i) ≡ Ok d → Retires f i word d e g
    → past_retired h.taken i (decoded word) (h.past i) ≡ past_after h.taken i d.act (h.past i)
retired_past f g i word b d e h done r =
    ap (λ o. past_retired h.taken i (decoded (unwrap_or o 0)) (h.past i)) (sym r.fetched) ∙ done_past f.setting (f.hart i) b d done h.taken i (h.past i)

-- what holds at one hart and at each other holds at all
each_hart : (P : ℕ → Type 0) (i : ℕ) → P i → ((j : ℕ) → j ≢ i → P j) → (j : ℕ) → P j
each_hart P i here there j = by (j == i) refl where
  by : (t : Bool) → (j == i) ≡ t → P j
  by true e = subst P (sym (one_number j i e)) here
  by false e = there j (two_numbers j i e)

-- who is in no transaction agrees with depth 0
pub none_agrees : (s : Setting) (i : ℕ) (x : FlatHart) (p : Past) → x.tx ≡ None → p.depth ≡ 0 → Agrees s i x p
none_agrees s i x p none zero = record { depth = ap depth_of none ∙ sym zero; inside = λ k. absurd (some_none x.tx k none) }

-- another hart than the entry's agrees as before
rest : (f g : Flat) (h : History) (e : Entry) → Carries f e g → (j : ℕ) → j ≢ hart_of e → (told h e).past j ≡ h.past j → Agrees f.setting j (f.hart j) (h.past j)
    → Agrees g.setting j (g.hart j) ((told h e).past j)
rest f g h e k j ne past a =
    subst (λ p. Agrees g.setting j (g.hart j) p) (sym past)
    (subst (λ y. Agrees g.setting j y (h.past j)) (sym (others_stay f g e k j ne))
    (subst (λ (z : Setting). Agrees z j (f.hart j) (h.past j)) (sym (setting_stays f g e k)) a))

-- a spill leaves the depths, and who was refused
pub spilled : (P : Past → Type 0) (h : History) (i b n : ℕ) → P (record (h.past n) { has_spilled = true }) → P (h.past n) → P ((told h (Spill i b)).past n)
spilled P h i b n new old = by (n == i) refl where
  by : (t : Bool) → (n == i) ≡ t → P (cond t (record (h.past i) { has_spilled = true }) (h.past n))
  by true e = subst (λ m. P (record (h.past m) { has_spilled = true })) (one_number n i e) new
  by false e = old

-- after an entry all agree
pub agree_next : (f g : Flat) (h : History) (e : Entry) → Carries f e g → ((i : ℕ) → Agrees f.setting i (f.hart i) (h.past i))
    → (i : ℕ) → Agrees g.setting i (g.hart i) ((told h e).past i)
agree_next f g h (Retire i pc w x l s) k all =
    let r = retired_by f g i pc w x l s k in
    let setting = setting_stays f g (Retire i pc w x l s) k in
    each_hart (λ j. Agrees g.setting j (g.hart j) ((told h (Retire i pc w x l s)).past j)) i
    (subst (λ (z : Setting). Agrees z i (g.hart i) ((told h (Retire i pc w x l s)).past i)) (sym setting)
    (subst (λ y. Agrees f.setting i y ((told h (Retire i pc w x l s)).past i)) (sym (hart_retired f g i r.0 r.2.after))
    (subst (λ p. Agrees f.setting i (hart_after (flat_view f i) (f.hart i) r.0) p) (sym (put_there i (past_retired h.taken i (decoded w) (h.past i)) h.past ∙ retired_past f g i w (is_some s) r.0 (Retire i pc w x l s) h r.1 r.2)) (record {
      depth = depth_after (flat_view f i) (f.hart i) (f.hart i).tx h.taken i r.0.act (h.past i) (all i).depth;
      inside = λ inside. (r.2.running.hart, runs_after f.setting (f.hart i) (flat_view f i) r.0.act (done_ok f.setting (f.hart i) (is_some s) r.0 r.1) inside);
    }))))
    (λ j ne. rest f g h (Retire i pc w x l s) k j ne (put_elsewhere i j (past_retired h.taken i (decoded w) (h.past i)) h.past ne) (all j))
agree_next f g h (Abort i c) k all =
    let r = aborted_by f g i c k in
    each_hart (λ j. Agrees g.setting j (g.hart j) ((told h (Abort i c)).past j)) i
    (none_agrees g.setting i (g.hart i) ((told h (Abort i c)).past i) (ap (λ (y : FlatHart). y.tx) (hart_back f g i c r.0 r.2.after)) (ap (λ (p : Past). p.depth) (put_there i (record (h.past i) { depth = 0; was_aborted = true }) h.past)))
    (λ j ne. rest f g h (Abort i c) k j ne (put_elsewhere i j (record (h.past i) { depth = 0; was_aborted = true }) h.past ne) (all j))
agree_next f g h (Trap i c p) k all =
    let tx : (g.hart i).tx ≡ None = ap (λ (m : Flat). (m.hart i).tx) k.after ∙ ap (λ (y : FlatHart). y.tx) (put_there i _ f.hart) ∙ k.outside in
    each_hart (λ j. Agrees g.setting j (g.hart j) (h.past j)) i
    (none_agrees g.setting i (g.hart i) (h.past i) tx (sym (all i).depth ∙ ap depth_of k.outside))
    (λ j ne. rest f g h (Trap i c p) k j ne refl (all j))
agree_next f g h (Refuse i j b) k all = λ n. subst (λ (m : Flat). Agrees m.setting n (m.hart n) ((told h (Refuse i j b)).past n)) (sym k) (record { depth = (all n).depth; inside = (all n).inside })
agree_next f g h (Spill i b) k all = λ n.
    let same : ((told h (Spill i b)).past n).depth ≡ (h.past n).depth = spilled (λ p. p.depth ≡ (h.past n).depth) h i b n refl refl in
    subst (λ (m : Flat). Agrees m.setting n (m.hart n) ((told h (Spill i b)).past n)) (sym k) (record { depth = (all n).depth ∙ sym same; inside = (all n).inside })
