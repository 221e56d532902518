-- An access at its block: a load, a store, or a load and then a store.
use Rattle.std.proofs.Common.{◌≡◌, ◌<◌, ℕ, Bool, true, false, Option, None, Some, refl, sym, subst, ◌∙◌, arith}
use Rattle.words.specs.declared.message.Kind.{Kind}
use Rattle.words.specs.declared.message.Kind.TheVariants.{Read, Write}
use Rattle.protocol.specs.Messages.{Block}
use Rattle.isolation.proofs.OneBlock.Model.State.{Copy, Tx, Outside, Running, Aborting, Own, Local, One, put_at, at_hart}
use Rattle.isolation.proofs.OneBlock.Model.Core.{enough, retire, load_own, load, store, flat_after}
use Rattle.isolation.proofs.OneBlock.Model.Step.{with_flat, with_own, Acts, Loads, Stores, Retires}
use Rattle.isolation.proofs.OneBlock.Invariant.Each.{Good}
use Rattle.isolation.proofs.OneBlock.Steps.FromOneHart.{put_twice, put_here}
use Rattle.isolation.proofs.OneBlock.Facts.Runs.{goes_on}

-- the hart after the load, if there is one
abbrev pub loaded : Bool → Option Kind → Local → Local
loaded true a l = load a l
loaded false a l = with_own (retire a l.own) l

-- and after the store, if there is one
abbrev pub used : Bool → Option (Block → Block) → Option Kind → Local → Local
used ld None a l = loaded ld a l
used ld (Some q) a l = store q a (loaded ld a l)

-- flat memory then
abbrev pub flat_used : Tx → Option (Block → Block) → Block → Block
flat_used t None m = m
flat_used t (Some q) m = flat_after t q m

-- what an access asks of the line
abbrev pub Suffices : Bool → Option (Block → Block) → Copy → Type 0
Suffices ld None x = enough Read x ≡ true
Suffices ld (Some q) x = enough Write x ≡ true

-- what is enough for a store is enough for a load
enough_both : (x : Copy) → enough Write x ≡ true → enough Read x ≡ true
enough_both x e = grind arith

-- a load changes no more than marks
load_tx : (t : Tx) (o : Own) → (load_own t o).tx ≡ o.tx
load_tx Outside o = refl
load_tx Running o = refl
load_tx Aborting o = refl

same_tx : (ld : Bool) (a : Option Kind) (l : Local) → (loaded ld a l).own.tx ≡ l.own.tx
same_tx true a l = load_tx l.own.tx l.own
same_tx false a l = refl

still_enough : (ld : Bool) (a : Option Kind) (l : Local) → enough Write l.line ≡ true → enough Write (loaded ld a l).line ≡ true
still_enough ld a l e = grind arith

same_wait : (ld : Bool) (a : Option Kind) (l : Local) → (loaded ld a l).wait ≡ l.wait
same_wait true a l = refl
same_wait false a l = refl

loaded_good : (n : ℕ) (s : One) (i : ℕ) (ld : Bool) (a : Option Kind) → Good n s → i < n → Acts (s.hart i) → enough Read (s.hart i).line ≡ true → Good n (at_hart i (loaded ld a (s.hart i)) s)
loaded_good n s i true a g o c e = goes_on n s _ g (Loads i a o c e)
loaded_good n s i false a g o c e = goes_on n s _ g (Retires i a o c)

pub used_good : (n : ℕ) (s : One) (i : ℕ) (ld : Bool) (q : Option (Block → Block)) (a : Option Kind) → Good n s → i < n → Acts (s.hart i) → Suffices ld q (s.hart i).line → Good n (with_flat (flat_used (s.hart i).own.tx q s.flat) (at_hart i (used ld q a (s.hart i)) s))
used_good n s i ld None a g o c e = loaded_good n s i ld a g o c e
used_good n s i ld (Some q) a g o c e = subst (λ f. Good n (record s { flat = flat_after (s.hart i).own.tx q s.flat; hart = f })) twice there
  where
    l : Local
    l = loaded ld a (s.hart i)

    twice : put_at i (store q a (loaded ld a (s.hart i))) (put_at i (loaded ld a (s.hart i)) s.hart) ≡ put_at i (store q a (loaded ld a (s.hart i))) s.hart
    twice = λ k j. put_twice i j (store q a (loaded ld a (s.hart i))) (loaded ld a (s.hart i)) s.hart k

    middle : Good n (at_hart i (loaded ld a (s.hart i)) s)
    middle = loaded_good n s i ld a g o c (enough_both (s.hart i).line e)

    here : put_at i (loaded ld a (s.hart i)) s.hart i ≡ loaded ld a (s.hart i)
    here = put_here i (loaded ld a (s.hart i)) s.hart

    after_load : (m : Local) → put_at i (loaded ld a (s.hart i)) s.hart i ≡ m → Acts m → enough Write m.line ≡ true → Good n (with_flat (flat_after m.own.tx q s.flat) (at_hart i (store q a m) (at_hart i (loaded ld a (s.hart i)) s)))
    after_load m z d w = subst (λ y. Good n (with_flat (flat_after y.own.tx q s.flat) (at_hart i (store q a y) (at_hart i (loaded ld a (s.hart i)) s)))) z
        (goes_on n (at_hart i (loaded ld a (s.hart i)) s) _ middle (Stores i q a o (subst (λ y. Acts y) (sym z) d) (subst (λ y. enough Write y.line ≡ true) (sym z) w)))

    acts : Acts (loaded ld a (s.hart i))
    acts = record { free = same_wait ld a (s.hart i) ∙ c.free; tx = λ z. c.tx (sym (same_tx ld a (s.hart i)) ∙ z) }

    there : Good n (with_flat (flat_after (s.hart i).own.tx q s.flat) (at_hart i (store q a (loaded ld a (s.hart i))) (at_hart i (loaded ld a (s.hart i)) s)))
    there = subst (λ t. Good n (with_flat (flat_after t q s.flat) (at_hart i (store q a (loaded ld a (s.hart i))) (at_hart i (loaded ld a (s.hart i)) s)))) (same_tx ld a (s.hart i))
        (after_load (loaded ld a (s.hart i)) here acts (still_enough ld a (s.hart i) e))
