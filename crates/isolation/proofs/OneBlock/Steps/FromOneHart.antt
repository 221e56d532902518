-- From one hart to all: what a row does at the hart that moves, and at each other, makes the invariant.
use Rattle.std.proofs.Common.{◌≡◌, ◌≢◌, ◌<◌, ℕ, Bool, true, false, Option, None, Some, cond, eqb, refl, sym, subst, arith}
use Rattle.std.proofs.lemmas.Bool.{eqb-true, eqb-false}
use Rattle.words.specs.declared.message.LineState.{LineState}
use Rattle.protocol.specs.Messages.{Block}
use Rattle.isolation.proofs.OneBlock.Model.State.{Local, One, put_at, at_hart}
use Rattle.isolation.proofs.OneBlock.Model.Step.{with_flat}
use Rattle.isolation.proofs.OneBlock.Invariant.Roles.{Ask, Role, Asks, Ghost}
use Rattle.isolation.proofs.OneBlock.Invariant.Parts.{Ctx}
use Rattle.isolation.proofs.OneBlock.Invariant.Each.{Agree, Expects, Center, Each, ctx, Inv, Good}

-- by cases on whether h is the hart that moved
pub moved : {A B : Type 0} (P : ℕ → A → B → Type 0) (i : ℕ) (a : A) (b : B) (f : ℕ → A) (g : ℕ → B) → P i a b → ((h : ℕ) → h ≢ i → P h (f h) (g h)) → (h : ℕ) → P h (put_at i a f h) (put_at i b g h)
moved P i a b f g here there h = go (eqb h i) refl
  where
    go : (t : Bool) → eqb h i ≡ t → P h (cond t a (f h)) (cond t b (g h))
    go true e = subst (λ x. P x a b) (sym (eqb-true h i e)) here
    go false e = there h (eqb-false h i e)

abbrev pub Holds : ℕ → Ctx → (ℕ → Bool) → (ℕ → Local) → (ℕ → Ghost) → Type 0
Holds n c sharers hart g = (h : ℕ) → h < n → Each c (sharers h) h (hart h) (g h)

-- one hart moves
pub frame : (n : ℕ) (c : Ctx) (sharers : ℕ → Bool) (hart : ℕ → Local) (g : ℕ → Ghost) (i : ℕ) (l : Local) (gi : Ghost) → Each c (sharers i) i l gi → ((h : ℕ) → h < n → h ≢ i → Each c (sharers h) h (hart h) (g h)) → Holds n c sharers (put_at i l hart) (put_at i gi g)
frame n c sharers hart g i l gi here there = moved (λ h l g. h < n → Each c (sharers h) h l g) i l gi hart g (λ _. here) (λ h o b. there h b o)

-- two harts move
pub frame_two : (n : ℕ) (c : Ctx) (sharers : ℕ → Bool) (hart : ℕ → Local) (g : ℕ → Ghost) (i j : ℕ) (l m : Local) (gi gj : Ghost) → Each c (sharers i) i l gi → Each c (sharers j) j m gj → ((h : ℕ) → h < n → h ≢ i → h ≢ j → Each c (sharers h) h (hart h) (g h)) → Holds n c sharers (put_at i l (put_at j m hart)) (put_at i gi (put_at j gj g))
frame_two n c sharers hart g i j l m gi gj here there rest =
    moved (λ h l g. h < n → Each c (sharers h) h l g) i l gi (put_at j m hart) (put_at j gj g) (λ _. here)
    (λ h o. moved (λ h l g. h ≢ i → h < n → Each c (sharers h) h l g) j m gj hart g (λ _ _. there) (λ h p o b. rest h b o p) h o)

-- one hart moves, and nothing else does
pub local_move : (n : ℕ) (s : One) (b : Option (ℕ × LineState)) (a : Role) (cur : Block) (w : Option ℕ) (g : ℕ → Ghost) (i : ℕ) (l : Local) (gi : Ghost) → Inv n b a cur w s g → Each (ctx b a cur w s) (s.sharers i) i l gi → Good n (at_hart i l s)
local_move n s b a cur w g i l gi v m = record {
  busy = b;
  asker = a;
  cur = cur;
  writer = w;
  ghost = put_at i gi g;
  inv = record { busy_is = v.busy_is; owner_in = v.owner_in; busy_in = v.busy_in; writer_in = v.writer_in; agree = v.agree; expects = v.expects; center = v.center; flat = v.flat; lone = v.lone; within = v.within; each = frame n (ctx b a cur w s) s.sharers s.hart g i l gi m (λ h o _. v.each h o) };
}

-- one hart moves, and the requester's part becomes k
pub asker_move : (n : ℕ) (s : One) (b : Option (ℕ × LineState)) (a k : Role) (cur : Block) (w : Option ℕ) (g : ℕ → Ghost) (i : ℕ) (l : Local) (gi : Ghost) → Inv n b a cur w s g → Agree b k → Expects n b k → Center s.owner s.memory cur k → Each (ctx b k cur w s) (s.sharers i) i l gi → ((h : ℕ) → h < n → h ≢ i → Each (ctx b k cur w s) (s.sharers h) h (s.hart h) (g h)) → Inv n b k cur w (at_hart i l s) (put_at i gi g)
asker_move n s b a k cur w g i l gi v r q z m o = record { busy_is = v.busy_is; owner_in = v.owner_in; busy_in = v.busy_in; writer_in = v.writer_in; agree = r; expects = q; center = z; flat = v.flat; lone = v.lone; within = v.within; each = frame n (ctx b k cur w s) s.sharers s.hart g i l gi m o }

-- two harts move, and the requester's part becomes k
pub asker_two : (n : ℕ) (s : One) (b : Option (ℕ × LineState)) (a k : Role) (cur : Block) (w : Option ℕ) (g : ℕ → Ghost) (i j : ℕ) (l m : Local) (gi gj : Ghost) → Inv n b a cur w s g → Agree b k → Expects n b k → Center s.owner s.memory cur k → Each (ctx b k cur w s) (s.sharers i) i l gi → Each (ctx b k cur w s) (s.sharers j) j m gj → ((h : ℕ) → h < n → h ≢ i → h ≢ j → Each (ctx b k cur w s) (s.sharers h) h (s.hart h) (g h)) → Inv n b k cur w (at_hart i l (at_hart j m s)) (put_at i gi (put_at j gj g))
asker_two n s b a k cur w g i j l m gi gj v r q z x y o = record { busy_is = v.busy_is; owner_in = v.owner_in; busy_in = v.busy_in; writer_in = v.writer_in; agree = r; expects = q; center = z; flat = v.flat; lone = v.lone; within = v.within; each = frame_two n (ctx b k cur w s) s.sharers s.hart g i j l m gi gj x y o }

-- one hart moves, and the value in place, flat memory or its writer do
pub value_move : (n : ℕ) (s : One) (b : Option (ℕ × LineState)) (a : Role) (cur d m : Block) (w u : Option ℕ) (g : ℕ → Ghost) (i : ℕ) (l : Local) (gi : Ghost) → Inv n b a cur w s g → ((x : ℕ) → u ≡ Some x → x < n) → Center s.owner s.memory d a → (u ≡ None → d ≡ m) → Each (record (ctx b a cur w s) { cur = d; mem = m; writer = u }) (s.sharers i) i l gi → ((h : ℕ) → h < n → h ≢ i → Each (record (ctx b a cur w s) { cur = d; mem = m; writer = u }) (s.sharers h) h (s.hart h) (g h)) → Good n (with_flat m (at_hart i l s))
value_move n s b a cur d m w u g i l gi v t z f x o = record {
  busy = b;
  asker = a;
  cur = d;
  writer = u;
  ghost = put_at i gi g;
  inv = record { busy_is = v.busy_is; owner_in = v.owner_in; busy_in = v.busy_in; writer_in = t; agree = v.agree; expects = v.expects; center = z; flat = f; lone = v.lone; within = v.within; each = frame n (record (ctx b a cur w s) { cur = d; mem = m; writer = u }) s.sharers s.hart g i l gi x o };
}

-- states that differ in how their harts are written
pub same_harts : (s : One) (f g : ℕ → Local) → ((j : ℕ) → f j ≡ g j) → record s { hart = f } ≡ record s { hart = g }
same_harts s f g e = λ i. record { owner = s.owner; sharers = s.sharers; busy = s.busy; memory = s.memory; flat = s.flat; hart = λ j. e j i }

pub put_twice : (r j : ℕ) (x y : Local) (f : ℕ → Local) → put_at r x (put_at r y f) j ≡ put_at r x f j
put_twice r j x y f = go (eqb j r)
  where
    go : (t : Bool) → cond t x (cond t y (f j)) ≡ cond t x (f j)
    go true = refl
    go false = refl

pub put_swap : (h r j : ℕ) (x y z : Local) (f : ℕ → Local) → h ≢ r → put_at r x (put_at h z (put_at r y f)) j ≡ put_at h z (put_at r x f) j
put_swap h r j x y z f n = grind (arith, eqb-true, eqb-false)

pub put_there : (h r : ℕ) (y z : Local) (f : ℕ → Local) → h ≢ r → put_at h z (put_at r y f) r ≡ y
put_there h r y z f n = grind (arith, eqb-true, eqb-false)

pub put_here : (r : ℕ) (y : Local) (f : ℕ → Local) → put_at r y f r ≡ y
put_here r y f = grind arith

-- the part of the asker, as an equation
abbrev pub Refined : Option (ℕ × LineState) → Role → ℕ → Type 0
Refined b a r = (s : LineState) × (k : Ask) × (b ≡ Some (r, s)) × (a ≡ Asks k)

pub refine : (n : ℕ) (s : One) (b d : Option (ℕ × LineState)) (a k : Role) (cur : Block) (w : Option ℕ) (g : ℕ → Ghost) → b ≡ d → a ≡ k → Inv n b a cur w s g → Inv n d k cur w s g
refine n s b d a k cur w g e f v = subst (λ x. Inv n d x cur w s g) f (subst (λ x. Inv n x a cur w s g) e v)
