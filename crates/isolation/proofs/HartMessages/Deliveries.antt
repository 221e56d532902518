-- A message that a hart takes without an entry: what both machines are at its block then, and at each other block.
use Rattle.std.proofs.Common.{◌≡◌, ◌≢◌, ◌<◌, ℕ, Bool, true, false, Option, None, Some, eqb, refl, sym, ap, subst, ◌∙◌}
use Rattle.std.specs.Prelude.{option_to_list}
use Rattle.std.proofs.lemmas.Bool.{eqb-true, eqb-false}
use Rattle.words.specs.declared.entry.Entry.{Entry}
use Rattle.flat.specs.Bytes.{put_at}
use Rattle.flat.specs.Steps.{CarriesSome}
use Rattle.flat.proofs.Maps.{put_there, put_elsewhere}
use Rattle.protocol.specs.Messages.{Message}
use Rattle.protocol.specs.Hart.{HartResult}
use Rattle.protocol.specs.Network.{Network, taken}
use Rattle.protocol.specs.Machine.{Machine, hart_change, ComesAbout}
use Rattle.isolation.proofs.OneBlock.Model.State.{Local, One, at_hart}
use Rattle.isolation.proofs.OneBlock.Model.State as one
use Rattle.isolation.proofs.OneBlock.Invariant.Each.{Good}
use Rattle.isolation.proofs.OneBlock.Uses.SameStates.{by_one, by_two}
use Rattle.isolation.proofs.Machine.Slots.{Slot, slot, slot_of, at_slot, Mail, at_else}
use Rattle.isolation.proofs.Machine.Sends.{with_all}
use Rattle.isolation.proofs.Machine.World.{World, local_at, project}
use Rattle.isolation.proofs.Machine.Invariant.{HartIs, Inv, told_some, HasReason, Next}
use Rattle.isolation.proofs.HartMessages.OneHartMoves.{local_mail, SentFits, at_each, put_same}
use Rattle.isolation.proofs.HartMessages.Arrivals.{arrived, then_at, good_at, mail_after, Arrives, arrives_next}

-- what is sent isn't at slot a
abbrev pub NotSent : Slot → Option Message → Type 0
NotSent a None = Unit {0}
NotSent a (Some z) = a ≢ slot_of z

-- what is sent is about block b
abbrev pub SentAt : ℕ → Option Message → Type 0
SentAt b None = Unit {0}
SentAt b (Some z) = (slot_of z).block ≡ b

-- a slot that neither message is in is as it was
pub mail_off : (m : Message) (t : HartResult) (mail : Mail) (a : Slot) → a ≢ slot_of m → NotSent a t.sent → mail_after m t mail a ≡ mail a
mail_off m t mail a n s = go t.sent s ∙ at_else a (slot_of m) None mail n
  where
    go : (o : Option Message) → NotSent a o → with_all (option_to_list o) (at_slot (slot_of m) None mail) a ≡ at_slot (slot_of m) None mail a
    go None u = refl
    go (Some z) u = at_else a (slot_of z) (Some z) (at_slot (slot_of m) None mail) u

not_of_hart : (i : ℕ) (o : Option Message) (f : Mail) (a : Slot) → SentFits i o f → a.hart ≢ i → NotSent a o
not_of_hart i None f a s n = tt
not_of_hart i (Some z) f a s n = λ e. n (ap (λ c. c.hart) e ∙ s.0)

not_of_block : (b : ℕ) (o : Option Message) (a : Slot) → SentAt b o → a.block ≢ b → NotSent a o
not_of_block b None a s n = tt
not_of_block b (Some z) a s n = λ e. n (ap (λ c. c.block) e ∙ s)

-- hart i takes message m of block b and makes turn t
pub record Delivers (x : World) (key i b : ℕ) (m : Message) (t : HartResult) : Type 0 where
  pub is_hart : i < x.machine.setting.count
  pub there : x.machine.net key ≡ Some m
  pub unstamped : t.stamped ≡ false
  pub silent : t.entry ≡ None
  pub about : (slot_of m).block ≡ b
  pub sent_about : SentAt b t.sent
  pub sent : SentFits i t.sent (at_slot (slot_of m) None x.mail)
  pub hart : HartIs x.machine.setting t.hart (x.flat.hart i) (x.history.past i)
  pub here : (net : Network) → Good x.machine.setting.count (project b (arrived i t.hart net x.history.past (mail_after m t x.mail) x))
  pub elsewhere : (c : ℕ) → c ≢ b → Good x.machine.setting.count (at_hart i (local_at x.machine.setting c i t.hart (x.flat.hart i) (x.history.past i) x.mail) (project c x))

module _ (x : World) (i : ℕ) (m : Message) (t : HartResult) where
  abbrev pub now : ℕ → ℕ → Local
  now b j = then_at b j i t.hart x.history.past (mail_after m t x.mail) x

  -- hart i itself
  self : (b : ℕ) → now b i ≡ local_at x.machine.setting b i t.hart (x.flat.hart i) (x.history.past i) (mail_after m t x.mail)
  self b = ap (λ h. local_at x.machine.setting b i h (x.flat.hart i) (x.history.past i) (mail_after m t x.mail)) (put_there i t.hart x.machine.harts)

  -- another hart
  other : (b j : ℕ) → j ≢ i → ((k : ℕ) → mail_after m t x.mail (slot k b j) ≡ x.mail (slot k b j)) → now b j ≡ (project b x).hart j
  other b j n e = ap (λ h. local_at x.machine.setting b j h (x.flat.hart j) (x.history.past j) (mail_after m t x.mail)) (put_elsewhere i j t.hart x.machine.harts n) ∙ local_mail x.machine.setting b j (x.machine.harts j) (x.flat.hart j) (x.history.past j) (mail_after m t x.mail) x.mail e

  -- at its block, where the message was hart i's own
  pub here_one : (b : ℕ) (l : Local) (net : Network) → (slot_of m).hart ≡ i → SentFits i t.sent (at_slot (slot_of m) None x.mail) → local_at x.machine.setting b i t.hart (x.flat.hart i) (x.history.past i) (mail_after m t x.mail) ≡ l → Good x.machine.setting.count (at_hart i l (project b x)) → Good x.machine.setting.count (project b (arrived i t.hart net x.history.past (mail_after m t x.mail) x))
  here_one b l net o s e g = good_at b i t.hart net x.history.past (mail_after m t x.mail) x (one.put_at i l (project b x).hart)
      (by_one i (now b) (project b x).hart l (self b ∙ e)
      (λ j n. other b j n (λ k. mail_off m t x.mail (slot k b j) (λ z. n (ap (λ a. a.hart) z ∙ o)) (not_of_hart i t.sent (at_slot (slot_of m) None x.mail) (slot k b j) s n))))
      g

  -- where it was another's, h's
  pub here_two : (b h : ℕ) (l lh : Local) (net : Network) → h ≢ i → (slot_of m).hart ≡ h → SentFits i t.sent (at_slot (slot_of m) None x.mail) → local_at x.machine.setting b i t.hart (x.flat.hart i) (x.history.past i) (mail_after m t x.mail) ≡ l → local_at x.machine.setting b h (x.machine.harts h) (x.flat.hart h) (x.history.past h) (at_slot (slot_of m) None x.mail) ≡ lh → Good x.machine.setting.count (at_hart h lh (at_hart i l (project b x))) → Good x.machine.setting.count (project b (arrived i t.hart net x.history.past (mail_after m t x.mail) x))
  here_two b h l lh net d o s e f g = good_at b i t.hart net x.history.past (mail_after m t x.mail) x (one.put_at h lh (one.put_at i l (project b x).hart))
      (by_two i h (now b) (project b x).hart l lh d (self b ∙ e) (sender ∙ f)
      (λ j n u. other b j n (λ k. mail_off m t x.mail (slot k b j) (λ z. u (ap (λ a. a.hart) z ∙ o)) (not_of_hart i t.sent (at_slot (slot_of m) None x.mail) (slot k b j) s n))))
      g
    where
      -- nothing is sent that is h's
      unsent : (o : Option Message) → SentFits i o (at_slot (slot_of m) None x.mail) → (k : ℕ) → with_all (option_to_list o) (at_slot (slot_of m) None x.mail) (slot k b h) ≡ at_slot (slot_of m) None x.mail (slot k b h)
      unsent None u k = refl
      unsent (Some z) u k = at_else (slot k b h) (slot_of z) (Some z) (at_slot (slot_of m) None x.mail) (λ q. d (ap (λ a. a.hart) q ∙ u.0))

      sender : now b h ≡ local_at x.machine.setting b h (x.machine.harts h) (x.flat.hart h) (x.history.past h) (at_slot (slot_of m) None x.mail)
      sender = ap (λ y. local_at x.machine.setting b h y (x.flat.hart h) (x.history.past h) (mail_after m t x.mail)) (put_elsewhere i h t.hart x.machine.harts d) ∙ local_mail x.machine.setting b h (x.machine.harts h) (x.flat.hart h) (x.history.past h) (mail_after m t x.mail) (at_slot (slot_of m) None x.mail) (unsent t.sent s)

  -- at another block only hart i may have moved
  there_good : (b c : ℕ) (net : Network) → c ≢ b → (slot_of m).block ≡ b → SentAt b t.sent → Good x.machine.setting.count (at_hart i (local_at x.machine.setting c i t.hart (x.flat.hart i) (x.history.past i) x.mail) (project c x)) → Good x.machine.setting.count (project c (arrived i t.hart net x.history.past (mail_after m t x.mail) x))
  there_good b c net n o s g = good_at c i t.hart net x.history.past (mail_after m t x.mail) x (one.put_at i (local_at x.machine.setting c i t.hart (x.flat.hart i) (x.history.past i) x.mail) (project c x).hart)
      (by_one i (now c) (project c x).hart (local_at x.machine.setting c i t.hart (x.flat.hart i) (x.history.past i) x.mail)
      (self c ∙ local_mail x.machine.setting c i t.hart (x.flat.hart i) (x.history.past i) (mail_after m t x.mail) x.mail (off i))
      (λ j d. other c j d (off j)))
      g
    where
      off : (j k : ℕ) → mail_after m t x.mail (slot k c j) ≡ x.mail (slot k c j)
      off j k = mail_off m t x.mail (slot k c j) (λ z. n (ap (λ a. a.block) z ∙ o)) (not_of_block b t.sent (slot k c j) s n)

-- what is left to show is enough
pub delivers_next : (x : World) (key i b : ℕ) (m : Message) (t : HartResult) (e : Option Entry) (w : Machine) → Inv x → Delivers x key i b m t → ComesAbout (hart_change i t (record x.machine { net = taken key x.machine.net })) e w → Next x e w
delivers_next x key i b m t e w v d c = arrives_next x key i m t x.history.past e w v arrives c
  where
    arrives : Arrives x key i m t x.history.past
    arrives = record {
      is_hart = d.is_hart;
      there = d.there;
      unstamped = d.unstamped;
      sent = d.sent;
      carries = subst (λ q. CarriesSome x.flat q x.flat) (sym d.silent) refl;
      reason = subst (HasReason x.flat x.history) (sym d.silent) tt;
      told = ap (told_some x.history) d.silent;
      harts = λ j. subst (λ p. HartIs x.machine.setting (put_at i t.hart x.machine.harts j) (x.flat.hart j) (p j)) (put_same i x.history.past) (subst (λ f. HartIs x.machine.setting (put_at i t.hart x.machine.harts j) (f j) (put_at i (x.history.past i) x.history.past j)) (put_same i x.flat.hart) (at_each (HartIs x.machine.setting) i t.hart (x.flat.hart i) (x.history.past i) x.machine.harts x.flat.hart x.history.past d.hart v.harts j));
      blocks = λ c net. go c net (eqb c b) refl;
    }
      where
        go : (c : ℕ) (net : Network) (q : Bool) → eqb c b ≡ q → Good x.machine.setting.count (project c (arrived i t.hart net x.history.past (mail_after m t x.mail) x))
        go c net true z = subst (λ y. Good x.machine.setting.count (project y (arrived i t.hart net x.history.past (mail_after m t x.mail) x))) (sym (eqb-true c b z)) (d.here net)
        go c net false z = there_good x i m t b c net (eqb-false c b z) d.about d.sent_about (d.elsewhere c (eqb-false c b z))
