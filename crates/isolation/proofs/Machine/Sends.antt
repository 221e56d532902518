-- A row takes at most one message and sends a list of messages, each under any key that is free then.
use Rattle.std.proofs.Common.{◌≡◌, ℕ, List, [], ◌∷◌, Option, None, Some, refl, sym, ap, ◌∙◌, subst}
use Rattle.std.proofs.lemmas.Option.{same_Some}
use Rattle.flat.specs.Bytes.{put_at}
use Rattle.protocol.specs.Messages.{Message}
use Rattle.protocol.specs.Network.{Network, taken, Sends}
use Rattle.isolation.proofs.Machine.Slots.{Slot, slot_of, at_slot, Mail, Tidy, look, mail_of, take_tidy, take_mail, send_tidy, send_mail}

-- each message goes into an empty slot
abbrev pub Fit : List Message → Mail → Type 0
Fit [] f = Unit {0}
Fit (m ∷ ms) f = (f (slot_of m) ≡ None) × Fit ms (at_slot (slot_of m) (Some m) f)

-- the mail once they are sent
abbrev pub with_all : List Message → Mail → Mail
with_all [] f = f
with_all (m ∷ ms) f = with_all ms (at_slot (slot_of m) (Some m) f)

-- the mail is that of the messages in flight
pub record Carried (net : Network) (mail : Mail) : Type 0 where
  pub place : Slot → Option ℕ
  pub tidy : Tidy net place
  pub is : mail ≡ mail_of net place

empty : (net : Network) (w : Slot → Option ℕ) (a : Slot) → Tidy net w → mail_of net w a ≡ None → w a ≡ None
empty net w a t e = go (w a) refl
  where
    go : (o : Option ℕ) → w a ≡ o → w a ≡ None
    go None c = c
    go (Some k) c = let h = t.holds a k c in let z : None ≡ Some h.0 = sym e ∙ ap (look net) c ∙ h.1 in absurd (cc)

-- a message in flight is in its slot
pub in_slot : (net : Network) (mail : Mail) (k : ℕ) (m : Message) → Carried net mail → net k ≡ Some m → mail (slot_of m) ≡ Some m
in_slot net mail k m c e = ap (λ f. f (slot_of m)) c.is ∙ (ap (look net) (c.tidy.found k m e) ∙ e)

-- and what is in a slot is in flight
pub in_flight : (net : Network) (mail : Mail) (a : Slot) (m : Message) → Carried net mail → mail a ≡ Some m → (k : ℕ) × (net k ≡ Some m) × (slot_of m ≡ a)
in_flight net mail a m c e = go (c.place a) refl
  where
    is : look net (c.place a) ≡ Some m
    is = sym (ap (λ f. f a) c.is) ∙ e

    go : (o : Option ℕ) → c.place a ≡ o → (k : ℕ) × (net k ≡ Some m) × (slot_of m ≡ a)
    go None z = let u : None ≡ Some m = sym (ap (look net) z) ∙ is in absurd (cc)
    go (Some k) z = let h = c.tidy.holds a k z in let u : net k ≡ Some m = sym (ap (look net) z) ∙ is in (k, u, ap slot_of (sym (same_Some h.0 m (sym h.1 ∙ u))) ∙ h.2)

-- what taking a message leaves
pub take_carried : (net : Network) (mail : Mail) (k : ℕ) (m : Message) → Carried net mail → net k ≡ Some m → Carried (taken k net) (at_slot (slot_of m) None mail)
take_carried net mail k m c e = record {
  place = at_slot (slot_of m) None c.place;
  tidy = take_tidy net c.place k m c.tidy e;
  is = ap (λ f. at_slot (slot_of m) None f) c.is ∙ (λ i a. sym (take_mail net c.place k m c.tidy e a) i);
}

-- what a row's sends leave
pub send_carried : (ms : List Message) (net new : Network) (mail : Mail) → Carried net mail → Sends net ms new → Fit ms mail → Carried new (with_all ms mail)
send_carried [] net new mail c s f = subst (λ x. Carried x mail) (sym s) c
send_carried (m ∷ ms) net new mail c s f = send_carried ms (put_at s.0 (Some m) net) new (at_slot (slot_of m) (Some m) mail) one s.2 f.1
  where
    none : c.place (slot_of m) ≡ None
    none = empty net c.place (slot_of m) c.tidy (sym (ap (λ g. g (slot_of m)) c.is) ∙ f.0)

    one : Carried (put_at s.0 (Some m) net) (at_slot (slot_of m) (Some m) mail)
    one = record {
      place = at_slot (slot_of m) (Some s.0) c.place;
      tidy = send_tidy net c.place s.0 m c.tidy s.1 none;
      is = ap (λ g. at_slot (slot_of m) (Some m) g) c.is ∙ (λ i a. sym (send_mail net c.place s.0 m c.tidy s.1 none a) i);
    }
