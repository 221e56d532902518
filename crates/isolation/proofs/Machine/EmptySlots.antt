-- Where a block's state has no message of a sort, the slot of that sort is empty.
use Rattle.std.proofs.Common.{◌≡◌, ℕ, false, Option, None, Some, refl, sym, ap, ◌∙◌, arith}
use Rattle.protocol.specs.Messages.{Message}
use Rattle.isolation.proofs.Machine.Slots.{Slot, slot, slot_of}
use Rattle.isolation.proofs.Machine.Sends.{in_flight}
use Rattle.isolation.proofs.Machine.World.{World, as_get, as_put, as_done, as_grant, as_forward, as_put_ack, as_ack, as_nack}
use Rattle.isolation.proofs.Machine.Invariant.{Inv}

-- what is in a slot of a sort is of that sort

not_get : (b i : ℕ) (m : Message) → slot_of m ≡ slot 0 b i → as_get (Some m) ≡ None → ⊥
not_get b i m s e = grind arith

not_put : (b i : ℕ) (m : Message) → slot_of m ≡ slot 1 b i → as_put (Some m) ≡ None → ⊥
not_put b i m s e = grind arith

not_done : (b i : ℕ) (m : Message) → slot_of m ≡ slot 2 b i → as_done (Some m) ≡ None → ⊥
not_done b i m s e = grind arith

not_grant : (b i : ℕ) (m : Message) → slot_of m ≡ slot 3 b i → as_grant (Some m) ≡ None → ⊥
not_grant b i m s e = grind arith

not_forward : (b i : ℕ) (m : Message) → slot_of m ≡ slot 4 b i → as_forward (Some m) ≡ None → ⊥
not_forward b i m s e = grind arith

not_put_ack : (b i : ℕ) (m : Message) → slot_of m ≡ slot 5 b i → as_put_ack (Some m) ≡ false → ⊥
not_put_ack b i m s e = grind arith

not_ack : (b i : ℕ) (m : Message) → slot_of m ≡ slot 6 b i → as_ack (Some m) ≡ None → ⊥
not_ack b i m s e = grind arith

not_nack : (b i : ℕ) (m : Message) → slot_of m ≡ slot 7 b i → as_nack (Some m) ≡ None → ⊥
not_nack b i m s e = grind arith

module _ (x : World) (v : Inv x) where
  -- a slot in which none of its own messages lies is empty
  slot_empty : (a : Slot) → ((m : Message) → slot_of m ≡ a → x.mail a ≡ Some m → ⊥) → x.mail a ≡ None
  slot_empty a n = go (x.mail a) refl
    where
      go : (o : Option Message) → x.mail a ≡ o → x.mail a ≡ None
      go None e = e
      go (Some m) e = absurd (n m (in_flight x.machine.net x.mail a m v.carried e).2 e)

  pub get_empty : (b i : ℕ) → as_get (x.mail (slot 0 b i)) ≡ None → x.mail (slot 0 b i) ≡ None
  get_empty b i e = slot_empty (slot 0 b i) (λ m s z. not_get b i m s (ap as_get (sym z) ∙ e))

  pub put_empty : (b i : ℕ) → as_put (x.mail (slot 1 b i)) ≡ None → x.mail (slot 1 b i) ≡ None
  put_empty b i e = slot_empty (slot 1 b i) (λ m s z. not_put b i m s (ap as_put (sym z) ∙ e))

  pub done_empty : (b i : ℕ) → as_done (x.mail (slot 2 b i)) ≡ None → x.mail (slot 2 b i) ≡ None
  done_empty b i e = slot_empty (slot 2 b i) (λ m s z. not_done b i m s (ap as_done (sym z) ∙ e))

  pub grant_empty : (b i : ℕ) → as_grant (x.mail (slot 3 b i)) ≡ None → x.mail (slot 3 b i) ≡ None
  grant_empty b i e = slot_empty (slot 3 b i) (λ m s z. not_grant b i m s (ap as_grant (sym z) ∙ e))

  pub forward_empty : (b i : ℕ) → as_forward (x.mail (slot 4 b i)) ≡ None → x.mail (slot 4 b i) ≡ None
  forward_empty b i e = slot_empty (slot 4 b i) (λ m s z. not_forward b i m s (ap as_forward (sym z) ∙ e))

  pub put_ack_empty : (b i : ℕ) → as_put_ack (x.mail (slot 5 b i)) ≡ false → x.mail (slot 5 b i) ≡ None
  put_ack_empty b i e = slot_empty (slot 5 b i) (λ m s z. not_put_ack b i m s (ap as_put_ack (sym z) ∙ e))

  pub ack_empty : (b i : ℕ) → as_ack (x.mail (slot 6 b i)) ≡ None → x.mail (slot 6 b i) ≡ None
  ack_empty b i e = slot_empty (slot 6 b i) (λ m s z. not_ack b i m s (ap as_ack (sym z) ∙ e))

  pub nack_empty : (b i : ℕ) → as_nack (x.mail (slot 7 b i)) ≡ None → x.mail (slot 7 b i) ≡ None
  nack_empty b i e = slot_empty (slot 7 b i) (λ m s z. not_nack b i m s (ap as_nack (sym z) ∙ e))
