-- A hart refuses another: what the entries say of both then, and its reason.
use Rattle.std.proofs.Common.{◌≡◌, ◌≢◌, ◌⊎◌, ℕ, Bool, true, false, Option, None, Some, Result, Ok, Err, cond, eqb, refl, sym, ap, ◌∙◌, inl, inr, arith, ◌/◌}
use Rattle.std.specs.Prelude.{◌||◌, ◌&&◌, nat_lt, is_some, IsOkAnd}
use Rattle.std.proofs.lemmas.Bool.{eqb-true, eq-eqb, ne_eqb, and_from}
use Rattle.std.proofs.Math.Bool.{or-false}
use Rattle.std.proofs.lemmas.Option.{same_Some}
use Rattle.words.specs.declared.cause.Cause.{Cause}
use Rattle.words.specs.declared.entry.Entry.TheVariants.{Refuse}
use Rattle.words.specs.declared.message.Kind.{Kind}
use Rattle.words.specs.declared.message.Kind.TheVariants.{Read, Write}
use Rattle.words.specs.declared.stamp.Stamp.{Stamp}
use Rattle.words.specs.Stamps.{earlier}
use Rattle.table.specs.declared.effect.Effect.{Effect}
use Rattle.table.specs.declared.effect.MemoryAct.{MemoryAct}
use Rattle.table.specs.declared.effect.Store.{Store}
use Rattle.table.specs.declared.effect.Act.{Act}
use Rattle.table.specs.declared.effect.Act.TheVariants as act
use Rattle.flat.specs.State.{Flat, has_read, has_written}
use Rattle.flat.specs.Reasons.{Past, History, is_older, told, StandsAgainst, WantsKept}
use Rattle.protocol.specs.Hart.{Transaction, stamp_of}
use Rattle.protocol.specs.Core.{kind_of}
use Rattle.isolation.proofs.OneBlock.Model.State.{Outside}
use Rattle.isolation.proofs.Machine.World.{tx_at, act_at, access_at}
use Rattle.isolation.proofs.Machine.Invariant.{PastIs}

-- Who is older

-- the entries and the machine have one order
pub older_is : (t u : Option Transaction) (k l : Option Stamp) (p q : Past) → PastIs t k p → PastIs u l q → is_older p q ≡ earlier (stamp_of t) (stamp_of u)
older_is t u k l p q y z = grind arith

-- What is told of each hart

and_not : (a p q : Bool) → p ≡ false → (a || (p && q)) ≡ a
and_not a p q e = ap (λ z. a || (z && q)) e ∙ or-false a

and_so : (a p q : Bool) → p ≡ true → (a || (p && q)) ≡ (a || q)
and_so a p q e = ap (λ z. a || (z && q)) e

-- hart i refuses block b to hart r
abbrev pub refusal_told : History → ℕ → ℕ → ℕ → ℕ → Past
refusal_told h i r b = (told h (Refuse i r b)).past

module _ (h : History) (i r b : ℕ) (n : i ≢ r) where
  -- the refuser has refused an earlier one, if the requester is older
  pub told_refuser : refusal_told h i r b i ≡ record (h.past i) { refused_earlier = (h.past i).refused_earlier || is_older (h.past r) (h.past i) }
  told_refuser = λ k. record (h.past i) {
    refused_earlier = and_so (h.past i).refused_earlier (eqb i i) (is_older (h.past r) (h.past i)) (eq-eqb i i refl) k;
    was_refused = and_not (h.past i).was_refused (eqb i r) (is_older (h.past i) (h.past r)) (ne_eqb i r n) k;
  }

  -- the requester was refused by an earlier one, if the refuser is older
  pub told_requester : refusal_told h i r b r ≡ record (h.past r) { was_refused = (h.past r).was_refused || is_older (h.past i) (h.past r) }
  told_requester = λ k. record (h.past r) {
    refused_earlier = and_not (h.past r).refused_earlier (eqb r i) (is_older (h.past r) (h.past i)) (ne_eqb r i (λ e. n (sym e))) k;
    was_refused = and_so (h.past r).was_refused (eqb r r) (is_older (h.past i) (h.past r)) (eq-eqb r r refl) k;
  }

  -- and of any other nothing new is told
  pub told_other : (j : ℕ) → j ≢ i → j ≢ r → refusal_told h i r b j ≡ h.past j
  told_other j d e = λ k. record (h.past j) {
    refused_earlier = and_not (h.past j).refused_earlier (eqb j i) (is_older (h.past r) (h.past i)) (ne_eqb j i d) k;
    was_refused = and_not (h.past j).was_refused (eqb j r) (is_older (h.past i) (h.past r)) (ne_eqb j r e) k;
  }

-- The reason

stands : (f : Flat) (i b : ℕ) (m : MemoryAct) (y : Option Store) (k : Kind) → cond (is_some y) Write Read ≡ k → (has_written (f.hart i).tx b ≡ true) ⊎ ((k ≡ Write) × (has_read (f.hart i).tx b ≡ true)) → StandsAgainst f i b y
stands f i b m None k e (inl w) = w
stands f i b m None k e (inr w) = absurd (not_write (e ∙ w.0))
  where
    not_write : Read ≡ Write → ⊥
    not_write z = cc
stands f i b m (Some s) k e (inl w) = inr w
stands f i b m (Some s) k e (inr w) = inl w.1

at_block : (f : Flat) (i b : ℕ) (spilled : Bool) (k : Kind) (m : MemoryAct) → cond (eqb (m.addr / 32) b) (Some (kind_of m)) None ≡ Some k
    → (StandsAgainst f i b None ⊎ (((k ≡ Write) × (has_read (f.hart i).tx b ≡ true)) ⊎ (spilled ≡ true))) → (m.addr / 32 ≡ b) × (StandsAgainst f i b m.store ⊎ (spilled ≡ true))
at_block f i b spilled k m e w = go (eqb (m.addr / 32) b) refl e
  where
    go : (q : Bool) → eqb (m.addr / 32) b ≡ q → cond q (Some (kind_of m)) None ≡ Some k → (m.addr / 32 ≡ b) × (StandsAgainst f i b m.store ⊎ (spilled ≡ true))
    go true z y = (eqb-true (m.addr / 32) b z, by w)
      where
        by : (StandsAgainst f i b None ⊎ (((k ≡ Write) × (has_read (f.hart i).tx b ≡ true)) ⊎ (spilled ≡ true))) → StandsAgainst f i b m.store ⊎ (spilled ≡ true)
        by (inl u) = inl (stands f i b m m.store k (same_Some (kind_of m) k y) (inl u))
        by (inr (inl u)) = inl (stands f i b m m.store k (same_Some (kind_of m) k y) (inr u))
        by (inr (inr u)) = inr u
    go false z y = absurd (cc)

wants : (f : Flat) (i b : ℕ) (spilled : Bool) (k : Kind) (a : Act) → act_at b a ≡ Some k → (StandsAgainst f i b None ⊎ (((k ≡ Write) × (has_read (f.hart i).tx b ≡ true)) ⊎ (spilled ≡ true))) → WantsKept f i b spilled a
wants f i b spilled k act.Nothing e w = absurd (cc)
wants f i b spilled k (act.Memory m) e w = at_block f i b spilled k m e w
wants f i b spilled k (act.Conditional rd m) e w = at_block f i b spilled k m e w
wants f i b spilled k (act.Begin p) e w = absurd (cc)
wants f i b spilled k act.Commit e w = absurd (cc)
wants f i b spilled k act.Abort e w = absurd (cc)
wants f i b spilled k act.Call e w = absurd (cc)
wants f i b spilled k act.Break e w = absurd (cc)

deep : (t : Option Transaction) (k : Option Stamp) (p : Past) → tx_at t ≢ Outside → PastIs t k p → nat_lt 0 p.depth ≡ true
deep t k p n z = grind arith

-- what one block knows of a refusal is a reason
pub wants_kept : (f : Flat) (i b : ℕ) (t : Option Transaction) (kept : Option Stamp) (p : Past) (k : Kind) (next : Result Effect Cause) → access_at b next ≡ Some k → tx_at t ≢ Outside → PastIs t kept p → ((has_written (f.hart i).tx b ≡ true) ⊎ (((k ≡ Write) × (has_read (f.hart i).tx b ≡ true)) ⊎ (p.has_spilled ≡ true))) → IsOkAnd next (λ e. WantsKept f i b (nat_lt 0 p.depth && p.has_spilled) e.act)
wants_kept f i b t kept p k (Err c) e n z w = absurd (cc)
wants_kept f i b t kept p k (Ok x) e n z w = wants f i b (nat_lt 0 p.depth && p.has_spilled) k x.act e (by w)
  where
    by : ((has_written (f.hart i).tx b ≡ true) ⊎ (((k ≡ Write) × (has_read (f.hart i).tx b ≡ true)) ⊎ (p.has_spilled ≡ true))) → StandsAgainst f i b None ⊎ (((k ≡ Write) × (has_read (f.hart i).tx b ≡ true)) ⊎ ((nat_lt 0 p.depth && p.has_spilled) ≡ true))
    by (inl u) = inl u
    by (inr (inl u)) = inr (inl u)
    by (inr (inr u)) = inr (inr (and_from (nat_lt 0 p.depth) p.has_spilled (deep t kept p n z) u))
