-- What is found among the numbers below another, and among the messages in flight.
use Rattle.std.proofs.Common.{◌≡◌, ◌<◌, ◌≤◌, ◌⊎◌, ℕ, zero, suc, Option, None, Some, refl, sym, ap, ◌∙◌, inl, inr, arith}
use Rattle.std.proofs.lemmas.Bool.{cases_lt, cases_eq}
use Rattle.std.specs.Option.{option_and_then, option_or}
use Rattle.protocol.specs.Messages.{Message}
use Rattle.protocol.specs.Network.{Network, LiesBelow}
use Rattle.protocol.specs.Values.{first_below}
use Rattle.isolation.proofs.Machine.Slots.{Slot, slot_of, Mail}
use Rattle.isolation.proofs.Machine.Sends.{Carried, in_slot, in_flight}

-- what is found first stands at some number
pub found_at : {A : Type 0} (n : ℕ) (f : ℕ → Option A) (v : A) → first_below n f ≡ Some v → (k : ℕ) × (k < n) × (f k ≡ Some v)
found_at zero f v e = absurd (cc)
found_at {A} (suc n) f v e = go (first_below n f) (found_at n f v) e
  where
    go : (o : Option A) → (o ≡ Some v → (k : ℕ) × (k < n) × (f k ≡ Some v)) → option_or o (f n) ≡ Some v → (k : ℕ) × (k < suc n) × (f k ≡ Some v)
    go None below e = (n, omega arith, e)
    go (Some w) below e = let r = below e in (r.0, omega (arith, r.1), r.2)

-- and where none is found, none stands
pub none_at : {A : Type 0} (n : ℕ) (f : ℕ → Option A) → first_below n f ≡ None → (k : ℕ) → k < n → f k ≡ None
none_at zero f e k lt = absurd (omega (arith, lt))
none_at {A} (suc n) f e k lt = go (first_below n f) (none_at n f) e
  where
    go : (o : Option A) → (o ≡ None → (k : ℕ) → k < n → f k ≡ None) → option_or o (f n) ≡ None → f k ≡ None
    go (Some w) below e = absurd (cc)
    go None below e = by_case (cases_eq k n)
      where
        by_case : ((k ≡ n) ⊎ (k ≡ n → ⊥)) → f k ≡ None
        by_case (inl z) = ap f z ∙ e
        by_case (inr z) = below refl k (omega (arith, lt, z))

module _ {A : Type 0} (keys : ℕ) (net : Network) (mail : Mail) (f : Message → Option A) (c : Carried net mail) where
  -- what is read off a message is read off one in its slot
  pub found_message : (v : A) → first_below keys (λ key. option_and_then f (net key)) ≡ Some v → (m : Message) × (mail (slot_of m) ≡ Some m) × (f m ≡ Some v)
  found_message v e = let r = found_at keys (λ key. option_and_then f (net key)) v e in go r.0 (net r.0) refl r.2
    where
      go : (k : ℕ) (o : Option Message) → net k ≡ o → option_and_then f o ≡ Some v → (m : Message) × (mail (slot_of m) ≡ Some m) × (f m ≡ Some v)
      go k None z e = absurd (cc)
      go k (Some m) z e = (m, in_slot net mail k m c z, e)

  -- and where nothing is, off none in a slot
  pub no_message : LiesBelow keys net → first_below keys (λ key. option_and_then f (net key)) ≡ None → (a : Slot) (m : Message) → mail a ≡ Some m → (slot_of m ≡ a) × (f m ≡ None)
  no_message below e a m z = let r = in_flight net mail a m c z in (r.2, go r.0 r.1 (cases_lt r.0 keys))
    where
      go : (k : ℕ) → net k ≡ Some m → (k < keys) ⊎ (keys ≤ k) → f m ≡ None
      go k z (inl lt) = sym (ap (option_and_then f) z) ∙ none_at keys (λ key. option_and_then f (net key)) e k lt
      go k z (inr le) = let u : None ≡ Some m = sym (below k le) ∙ z in absurd (cc)
