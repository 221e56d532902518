-- A good state that is written in another way is good, and so is one that differs only in harts that there aren't.
use Rattle.std.proofs.Common.{◌≡◌, ◌≢◌, ◌<◌, ℕ, Bool, true, false, cond, eqb, refl, sym, ap, subst, ◌∙◌}
use Rattle.std.proofs.lemmas.Bool.{eqb-true, eqb-false}
use Rattle.isolation.proofs.OneBlock.Model.State.{Local, One, put_at, at_hart}
use Rattle.isolation.proofs.OneBlock.Invariant.Each.{Each, ctx, Good}
use Rattle.isolation.proofs.OneBlock.Steps.FromOneHart.{same_harts}

-- the harts, where one has moved
pub by_one : (i : ℕ) (f g : ℕ → Local) (li : Local) → f i ≡ li → ((j : ℕ) → j ≢ i → f j ≡ g j) → (j : ℕ) → f j ≡ put_at i li g j
by_one i f g li x z j = go (eqb j i) refl
  where
    go : (q : Bool) → eqb j i ≡ q → f j ≡ cond q li (g j)
    go true b = ap f (eqb-true j i b) ∙ x
    go false b = z j (eqb-false j i b)

-- and where two have
pub by_two : (i h : ℕ) (f g : ℕ → Local) (li lh : Local) → h ≢ i → f i ≡ li → f h ≡ lh → ((j : ℕ) → j ≢ i → j ≢ h → f j ≡ g j) → (j : ℕ) → f j ≡ put_at h lh (put_at i li g) j
by_two i h f g li lh n x y z j = go (eqb j h) refl (eqb j i) refl
  where
    go : (p : Bool) → eqb j h ≡ p → (q : Bool) → eqb j i ≡ q → f j ≡ cond p lh (cond q li (g j))
    go true a q b = ap f (eqb-true j h a) ∙ y
    go false a true b = ap f (eqb-true j i b) ∙ x
    go false a false b = z j (eqb-false j i b) (eqb-false j h a)

-- one hart is written in another way
pub good_as : (n : ℕ) (s : One) (i : ℕ) (l m : Local) → m ≡ l → Good n (at_hart i l s) → Good n (at_hart i m s)
good_as n s i l m e g = subst (λ z. Good n (at_hart i z s)) (sym e) g

-- a hart that moves to where it was
pub good_still : (n : ℕ) (s : One) (i : ℕ) (l : Local) → l ≡ s.hart i → Good n s → Good n (at_hart i l s)
good_still n s i l e g = subst (Good n) (same_harts s s.hart (put_at i l s.hart) (λ j. by_one i s.hart s.hart l (sym e) (λ k d. refl) j)) g

-- states of a block that differ only in harts beyond the machine's
pub good_below : (n : ℕ) (s : One) (hart : ℕ → Local) → ((j : ℕ) → j < n → hart j ≡ s.hart j) → Good n s → Good n (record s { hart = hart })
good_below n s hart e g = record {
  busy = g.busy;
  asker = g.asker;
  cur = g.cur;
  writer = g.writer;
  ghost = g.ghost;
  inv = record {
    busy_is = g.inv.busy_is;
    owner_in = g.inv.owner_in;
    busy_in = g.inv.busy_in;
    writer_in = g.inv.writer_in;
    agree = g.inv.agree;
    expects = g.inv.expects;
    center = g.inv.center;
    flat = g.inv.flat;
    lone = g.inv.lone;
    within = g.inv.within;
    each = λ h o. subst (λ l. Each (ctx g.busy g.asker g.cur g.writer s) (s.sharers h) h l (g.ghost h)) (sym (e h o)) (g.inv.each h o);
  };
}

-- and that are the same in the rest
pub good_like : (n : ℕ) (s t : One) → t.owner ≡ s.owner → t.sharers ≡ s.sharers → t.busy ≡ s.busy → t.memory ≡ s.memory → t.flat ≡ s.flat → ((j : ℕ) → j < n → t.hart j ≡ s.hart j) → Good n s → Good n t
good_like n s t o h b m f e g = subst (Good n) (λ i. record { owner = sym o i; sharers = sym h i; busy = sym b i; memory = sym m i; flat = sym f i; hart = t.hart }) (good_below n s t.hart e g)
