-- Messages by slot: each has a sort, a block and a hart, and of a slot at most one message is in flight.
use Rattle.std.proofs.Common.{◌≡◌, ◌≢◌, ℕ, Bool, true, false, Option, None, Some, cond, eqb, refl, sym, ap, ◌∙◌, subst, arith}
use Rattle.std.specs.Prelude.{◌&&◌}
use Rattle.std.proofs.lemmas.Bool.{eqb-true, eqb-false, eq-eqb, ne_eqb, both_ways, cond-false, false_from_ne_true}
use Rattle.std.proofs.lemmas.Option.{none-some, same_Some}
use Rattle.flat.specs.Bytes.{put_at}
use Rattle.protocol.specs.Messages.{Message, Get, Put, Done, Grant, Forward, PutAck, Ack, Nack}
use Rattle.protocol.specs.Network.{Network, taken}

-- which sort, about which block, and whose: the one's it is from, or for a message of the directory the one's it goes to
pub record Slot : Type 0 where
  pub sort : ℕ
  pub block : ℕ
  pub hart : ℕ

abbrev pub slot : ℕ → ℕ → ℕ → Slot
slot k b h = record { sort = k; block = b; hart = h }

-- a message's slot
abbrev pub slot_of : Message → Slot
slot_of (Get from block kind stamp) = slot 0 block from
slot_of (Put from block content marked) = slot 1 block from
slot_of (Done from block ok content) = slot 2 block from
slot_of (Grant to block granted) = slot 3 block to
slot_of (Forward to block kind requester stamp) = slot 4 block to
slot_of (PutAck to block) = slot 5 block to
slot_of (Ack from to block content) = slot 6 block from
slot_of (Nack from to block stamp) = slot 7 block from

-- whether two slots are one
abbrev pub same : Slot → Slot → Bool
same a b = eqb a.sort b.sort && (eqb a.block b.block && eqb a.hart b.hart)

pub same_is : (a b : Slot) → same a b ≡ true → a ≡ b
same_is a b e = grind (arith, eqb-true)

pub same_self : (a : Slot) → same a a ≡ true
same_self a = grind (arith, eq-eqb)

-- two slots of one sort and block are the same where their harts are
pub slot_test : (b j r : ℕ) (q : Bool) → eqb j r ≡ q → (eqb b b && eqb j r) ≡ q
slot_test b j r q e = ap (λ z. z && eqb j r) (eq-eqb b b refl) ∙ e

-- f with v at slot a
abbrev pub at_slot : {A : Type 0} → Slot → A → (Slot → A) → Slot → A
at_slot a v f b = cond (same b a) v (f b)

-- at that slot stands the new value
pub at_here : {A : Type 0} (a : Slot) (v : A) (f : Slot → A) → at_slot a v f a ≡ v
at_here a v f = ap (λ q. cond q v (f a)) (same_self a)

-- elsewhere the old one
pub at_else : {A : Type 0} (a b : Slot) (v : A) (f : Slot → A) → a ≢ b → at_slot b v f a ≡ f a
at_else a b v f n = cond-false (same a b) v (f a) (false_from_ne_true (same a b) (λ e. n (same_is a b e)))

-- each slot's message
abbrev pub Mail : Type 0
Mail = Slot → Option Message

-- where each slot's message is, by key
pub record Tidy (net : Network) (place : Slot → Option ℕ) : Type 0 where
  pub found : (k : ℕ) (m : Message) → net k ≡ Some m → place (slot_of m) ≡ Some k
  pub holds : (a : Slot) (k : ℕ) → place a ≡ Some k → (m : Message) × (net k ≡ Some m) × (slot_of m ≡ a)

-- the message under a key, if there is one
abbrev pub look : Network → Option ℕ → Option Message
look net None = None
look net (Some k) = net k

-- the mail, from keys and what is under them
abbrev pub mail_of : Network → (Slot → Option ℕ) → Mail
mail_of net w a = look net (w a)

same_not : (a b : Slot) → same a b ≡ false → a ≢ b
same_not a b e f = both_ways (same a b) e (subst (λ x. same a x ≡ true) f (same_self a))

-- a message is taken: its slot is empty from then on
module _ (net : Network) (w : Slot → Option ℕ) (k : ℕ) (m : Message) (t : Tidy net w) (e : net k ≡ Some m) where
  take_found : (j : ℕ) (x : Message) → taken k net j ≡ Some x → at_slot (slot_of m) None w (slot_of x) ≡ Some j
  take_found j x f = go (eqb j k) refl (same (slot_of x) (slot_of m)) refl
    where
      go : (q : Bool) → eqb j k ≡ q → (p : Bool) → same (slot_of x) (slot_of m) ≡ p → cond p None (w (slot_of x)) ≡ Some j
      go true a p b = let z : None ≡ Some x = sym (ap (λ y. cond y None (net j)) a) ∙ f in absurd (cc)
      go false a true b =
          let g : net j ≡ Some x = sym (ap (λ y. cond y None (net j)) a) ∙ f in
          let u : Some j ≡ Some k = sym (t.found j x g) ∙ ap w (same_is (slot_of x) (slot_of m) b) ∙ t.found k m e in
          absurd (eqb-false j k a (same_Some _ _ u))
      go false a false b = t.found j x (sym (ap (λ y. cond y None (net j)) a) ∙ f)

  take_holds : (a : Slot) (j : ℕ) → at_slot (slot_of m) None w a ≡ Some j → (x : Message) × (taken k net j ≡ Some x) × (slot_of x ≡ a)
  take_holds a j f = go (same a (slot_of m)) refl (eqb j k) refl
    where
      go : (p : Bool) → same a (slot_of m) ≡ p → (q : Bool) → eqb j k ≡ q → (x : Message) × (cond q None (net j) ≡ Some x) × (slot_of x ≡ a)
      go true b q c = let z : None ≡ Some j = sym (ap (λ y. cond y None (w a)) b) ∙ f in absurd (cc)
      go false b true c =
          let g : w a ≡ Some j = sym (ap (λ y. cond y None (w a)) b) ∙ f in
          let h = t.holds a j g in
          let u : Some h.0 ≡ Some m = sym h.1 ∙ ap net (eqb-true j k c) ∙ e in
          absurd (same_not a (slot_of m) b (sym h.2 ∙ ap slot_of (same_Some _ _ u)))
      go false b false c = t.holds a j (sym (ap (λ y. cond y None (w a)) b) ∙ f)

  -- each slot's place is known still
  pub take_tidy : Tidy (taken k net) (at_slot (slot_of m) None w)
  take_tidy = record { found = take_found; holds = take_holds }

  -- and the mail is as before, but for that slot
  pub take_mail : (a : Slot) → mail_of (taken k net) (at_slot (slot_of m) None w) a ≡ at_slot (slot_of m) None (mail_of net w) a
  take_mail a = go (same a (slot_of m)) refl (w a) refl
    where
      go : (p : Bool) → same a (slot_of m) ≡ p → (o : Option ℕ) → w a ≡ o → look (taken k net) (cond p None o) ≡ cond p None (look net o)
      go true b o c = refl
      go false b None c = refl
      go false b (Some j) c =
          let h = t.holds a j c in
          let n : j ≢ k = λ z. same_not a (slot_of m) b (sym h.2 ∙ ap slot_of (same_Some _ _ (sym h.1 ∙ ap net z ∙ e))) in
          ap (λ y. cond y None (net j)) (ne_eqb j k n)

-- a message is sent under a free key, into an empty slot
module _ (net : Network) (w : Slot → Option ℕ) (k : ℕ) (m : Message) (t : Tidy net w) (e : net k ≡ None) (f : w (slot_of m) ≡ None) where
  send_found : (j : ℕ) (x : Message) → put_at k (Some m) net j ≡ Some x → at_slot (slot_of m) (Some k) w (slot_of x) ≡ Some j
  send_found j x g = go (eqb j k) refl (same (slot_of x) (slot_of m)) refl
    where
      go : (q : Bool) → eqb j k ≡ q → (p : Bool) → same (slot_of x) (slot_of m) ≡ p → cond p (Some k) (w (slot_of x)) ≡ Some j
      go true a true b = ap Some (sym (eqb-true j k a))
      go true a false b =
          let u : Some m ≡ Some x = sym (ap (λ y. cond y (Some m) (net j)) a) ∙ g in
          absurd (same_not (slot_of x) (slot_of m) b (ap slot_of (sym (same_Some _ _ u))))
      go false a true b =
          let h : net j ≡ Some x = sym (ap (λ y. cond y (Some m) (net j)) a) ∙ g in
          let u : None ≡ Some j = sym f ∙ ap w (sym (same_is (slot_of x) (slot_of m) b)) ∙ t.found j x h in
          absurd (cc)
      go false a false b = t.found j x (sym (ap (λ y. cond y (Some m) (net j)) a) ∙ g)

  send_holds : (a : Slot) (j : ℕ) → at_slot (slot_of m) (Some k) w a ≡ Some j → (x : Message) × (put_at k (Some m) net j ≡ Some x) × (slot_of x ≡ a)
  send_holds a j g = go (same a (slot_of m)) refl (eqb j k) refl
    where
      go : (p : Bool) → same a (slot_of m) ≡ p → (q : Bool) → eqb j k ≡ q → (x : Message) × (cond q (Some m) (net j) ≡ Some x) × (slot_of x ≡ a)
      go true b true c = (m, refl, sym (same_is a (slot_of m) b))
      go true b false c =
          let u : Some k ≡ Some j = sym (ap (λ y. cond y (Some k) (w a)) b) ∙ g in
          absurd (eqb-false j k c (sym (same_Some _ _ u)))
      go false b true c =
          let h = t.holds a j (sym (ap (λ y. cond y (Some k) (w a)) b) ∙ g) in
          let u : None ≡ Some h.0 = sym e ∙ ap net (sym (eqb-true j k c)) ∙ h.1 in
          absurd (cc)
      go false b false c = t.holds a j (sym (ap (λ y. cond y (Some k) (w a)) b) ∙ g)

  -- each slot's place is known still
  pub send_tidy : Tidy (put_at k (Some m) net) (at_slot (slot_of m) (Some k) w)
  send_tidy = record { found = send_found; holds = send_holds }

  -- and the mail is as before, but for that slot
  pub send_mail : (a : Slot) → mail_of (put_at k (Some m) net) (at_slot (slot_of m) (Some k) w) a ≡ at_slot (slot_of m) (Some m) (mail_of net w) a
  send_mail a = go (same a (slot_of m)) refl (w a) refl
    where
      go : (p : Bool) → same a (slot_of m) ≡ p → (o : Option ℕ) → w a ≡ o → look (put_at k (Some m) net) (cond p (Some k) o) ≡ cond p (Some m) (look net o)
      go true b o c = ap (λ y. cond y (Some m) (net k)) (eq-eqb k k refl)
      go false b None c = refl
      go false b (Some j) c =
          let h = t.holds a j c in
          let n : j ≢ k = λ z. none-some h.0 (sym (sym h.1 ∙ ap net z ∙ e)) in
          ap (λ y. cond y (Some m) (net j)) (ne_eqb j k n)
