-- One hart moves: what both machines are at a block then, and what is left to show.
use Rattle.std.proofs.Common.{◌≡◌, ◌≢◌, ◌<◌, ℕ, Bool, true, false, Option, None, Some, cond, eqb, refl, sym, ap, subst, ◌∙◌}
use Rattle.std.specs.Prelude.{option_to_list}
use Rattle.std.proofs.lemmas.Bool.{eqb-true, eqb-false}
use Rattle.flat.specs.Bytes.{put_at}
use Rattle.flat.specs.State.{Setting, FlatHart}
use Rattle.flat.specs.Steps.{CarriesSome}
use Rattle.flat.specs.Reasons.{Past}
use Rattle.flat.proofs.Maps.{put_again}
use Rattle.protocol.specs.Messages.{Message}
use Rattle.protocol.specs.Lines.{words_at}
use Rattle.protocol.specs.Hart.{Hart, HartResult}
use Rattle.protocol.specs.Network.{Network, Sends}
use Rattle.protocol.specs.Machine.{stamps_after}
use Rattle.isolation.proofs.OneBlock.Model.State.{at_hart}
use Rattle.isolation.proofs.OneBlock.Model.Step.{with_flat}
use Rattle.isolation.proofs.OneBlock.Invariant.Each.{Good}
use Rattle.isolation.proofs.Machine.Slots.{Slot, slot, slot_of, same, same_is, at_slot, at_else, Mail}
use Rattle.isolation.proofs.Machine.Sends.{Fit, with_all, Carried, send_carried}
use Rattle.isolation.proofs.Machine.World.{World, as_get, as_put, as_done, as_grant, as_forward, as_put_ack, as_ack, as_nack, local_at, project}
use Rattle.isolation.proofs.Machine.Invariant.{HartIs, HasBytes, Inv, told_some, HasReason, Next}

-- a hart at a block reads no mail but its own there
pub local_mail : (s : Setting) (b j : ℕ) (h : Hart) (f : FlatHart) (p : Past) (mail post : Mail) → ((k : ℕ) → mail (slot k b j) ≡ post (slot k b j)) → local_at s b j h f p mail ≡ local_at s b j h f p post
local_mail s b j h f p mail post e = λ i. record (local_at s b j h f p mail) {
  get = as_get (e 0 i);
  puts = as_put (e 1 i);
  done = as_done (e 2 i);
  grant = as_grant (e 3 i);
  fwd = as_forward (e 4 i);
  put_ack = as_put_ack (e 5 i);
  ack = as_ack (e 6 i);
  nack = as_nack (e 7 i);
}

-- the two machines after hart i has moved
abbrev pub after : ℕ → HartResult → Network → FlatHart → (ℕ → ℕ) → Past → Mail → World → World
after i t net f mem p mail x = record {
  machine = record x.machine { harts = put_at i t.hart x.machine.harts; net = net; stamps = stamps_after t.stamped x.machine.stamps };
  flat = record x.flat { mem = mem; hart = put_at i f x.flat.hart };
  history = record { taken = stamps_after t.stamped x.history.taken; past = put_at i p x.history.past };
  mail = mail;
}

-- at each block one hart has moved, and flat memory
pub after_block : (i : ℕ) (t : HartResult) (net : Network) (f : FlatHart) (mem : ℕ → ℕ) (p : Past) (mail : Mail) (x : World) → ((a : Slot) → a.hart ≢ i → mail a ≡ x.mail a) → (b : ℕ) → project b (after i t net f mem p mail x) ≡ with_flat (words_at mem b) (at_hart i (local_at x.machine.setting b i t.hart f p mail) (project b x))
after_block i t net f mem p mail x off b = λ k. record {
  owner = (x.machine.entries b).owner;
  sharers = (x.machine.entries b).sharers;
  busy = (project b x).busy;
  memory = x.machine.memory b;
  flat = words_at mem b;
  hart = λ j. here j (eqb j i) refl k;
}
  where
    here : (j : ℕ) (q : Bool) → eqb j i ≡ q → local_at x.machine.setting b j (cond q t.hart (x.machine.harts j)) (cond q f (x.flat.hart j)) (cond q p (x.history.past j)) mail ≡ cond q (local_at x.machine.setting b i t.hart f p mail) ((project b x).hart j)
    here j true e = ap (λ z. local_at x.machine.setting b z t.hart f p mail) (eqb-true j i e)
    here j false e = local_mail x.machine.setting b j (x.machine.harts j) (x.flat.hart j) (x.history.past j) mail x.mail (λ k. off (slot k b j) (eqb-false j i e))

-- a message that a hart sends is its own, and has its place free
abbrev pub SentFits : ℕ → Option Message → Mail → Type 0
SentFits i None mail = Unit {0}
SentFits i (Some m) mail = ((slot_of m).hart ≡ i) × (mail (slot_of m) ≡ None)

-- so it fits
pub fits : (i : ℕ) (o : Option Message) (mail : Mail) → SentFits i o mail → Fit (option_to_list o) mail
fits i None mail e = tt
fits i (Some m) mail e = (e.1, tt)

-- at another hart's slot nothing is sent
sent_off : (i : ℕ) (o : Option Message) (mail : Mail) → SentFits i o mail → (a : Slot) → a.hart ≢ i → with_all (option_to_list o) mail a ≡ mail a
sent_off i None mail e a n = refl
sent_off i (Some m) mail e a n = at_else a (slot_of m) (Some m) mail (λ z. n (ap (λ c. c.hart) z ∙ e.0))

-- what is in mail is of harts below n
abbrev pub InRange : ℕ → Mail → Type 0
InRange n mail = (a : Slot) (m : Message) → mail a ≡ Some m → a.hart < n

-- so it is once a message of such a hart is in its slot
pub put_range : (n : ℕ) (m : Message) (mail : Mail) → (slot_of m).hart < n → InRange n mail → InRange n (at_slot (slot_of m) (Some m) mail)
put_range n m mail o r = λ a x z. go a x (same a (slot_of m)) refl z
  where
    go : (a : Slot) (x : Message) (q : Bool) → same a (slot_of m) ≡ q → cond q (Some m) (mail a) ≡ Some x → a.hart < n
    go a x true y z = subst (λ c. c.hart < n) (sym (same_is a (slot_of m) y)) o
    go a x false y z = r a x z

-- or what a hart sends
pub sent_range : (n i : ℕ) (o : Option Message) (mail : Mail) → i < n → SentFits i o mail → InRange n mail → InRange n (with_all (option_to_list o) mail)
sent_range n i None mail le e r = r
sent_range n i (Some m) mail le e r = put_range n m mail (subst (λ k. k < n) (sym e.0) le) r

-- and once a slot is emptied
pub take_range : (n : ℕ) (b : Slot) (mail : Mail) → InRange n mail → InRange n (at_slot b None mail)
take_range n b mail r = λ a x z. go a x (same a b) z
  where
    go : (a : Slot) (x : Message) (q : Bool) → cond q None (mail a) ≡ Some x → a.hart < n
    go a x true z = absurd (cc)
    go a x false z = r a x z

-- where nothing is put that wasn't there
pub put_same : {A : Type 0} (i : ℕ) (f : ℕ → A) → put_at i (f i) f ≡ f
put_same i f = λ k j. put_again i j f k

-- what is said of each number, where one has changed
pub at_each : {A B C : Type 0} (P : A → B → C → Type 0) (i : ℕ) (a : A) (b : B) (c : C) (f : ℕ → A) (g : ℕ → B) (h : ℕ → C) → P a b c → ((j : ℕ) → P (f j) (g j) (h j)) → (j : ℕ) → P (put_at i a f j) (put_at i b g j) (put_at i c h j)
at_each P i a b c f g h here there j = go (eqb j i)
  where
    go : (q : Bool) → P (cond q a (f j)) (cond q b (g j)) (cond q c (h j))
    go true = here
    go false = there j

-- the mail once a turn's message is in flight
abbrev pub posted : HartResult → Mail → Mail
posted t mail = with_all (option_to_list t.sent) mail

-- hart i of the machine makes a turn, where net and mail are what it leaves of what is in flight, and f, mem and p are what the
-- flat machine and the entries become
pub record Moves (x : World) (i : ℕ) (t : HartResult) (net : Network) (mail : Mail) (f : FlatHart) (mem : ℕ → ℕ) (p : Past) : Type 0 where
  pub is_hart : i < x.machine.setting.count
  pub carried : Carried net mail
  pub range : InRange x.machine.setting.count mail
  pub off : (a : Slot) → a.hart ≢ i → mail a ≡ x.mail a
  pub sent : SentFits i t.sent mail
  pub carries : CarriesSome x.flat t.entry (record x.flat { mem = mem; hart = put_at i f x.flat.hart })
  pub reason : HasReason x.flat x.history t.entry
  pub told : told_some x.history t.entry ≡ record { taken = stamps_after t.stamped x.history.taken; past = put_at i p x.history.past }
  pub hart : HartIs x.machine.setting t.hart f p
  pub bytes : HasBytes (record x.flat { mem = mem; hart = put_at i f x.flat.hart })
  pub blocks : (b : ℕ) → Good x.machine.setting.count (with_flat (words_at mem b) (at_hart i (local_at x.machine.setting b i t.hart f p (posted t mail)) (project b x)))

-- what is left to show is enough
pub moves_next : (x : World) (i : ℕ) (t : HartResult) (net new : Network) (mail : Mail) (f : FlatHart) (mem : ℕ → ℕ) (p : Past) → Inv x → Moves x i t net mail f mem p → Sends net (option_to_list t.sent) new → Next x t.entry (record x.machine { harts = put_at i t.hart x.machine.harts; net = new; stamps = stamps_after t.stamped x.machine.stamps })
moves_next x i t net new mail f mem p v m s = record {
  flat = record x.flat { mem = mem; hart = put_at i f x.flat.hart };
  mail = posted t mail;
  carries = m.carries;
  reason = m.reason;
  inv = subst (λ h. Inv (record (after i t new f mem p (posted t mail) x) { history = h })) (sym m.told) inv;
}
  where
    off : (a : Slot) → a.hart ≢ i → (posted t mail) a ≡ x.mail a
    off a n = sent_off i t.sent mail m.sent a n ∙ m.off a n

    inv : Inv (after i t new f mem p (posted t mail) x)
    inv = record {
      same = v.same;
      carried = send_carried (option_to_list t.sent) net new mail m.carried s (fits i t.sent mail m.sent);
      range = sent_range x.machine.setting.count i t.sent mail m.is_hart m.sent m.range;
      taken = ap (stamps_after t.stamped) v.taken;
      harts = at_each (HartIs x.machine.setting) i t.hart f p x.machine.harts x.flat.hart x.history.past m.hart v.harts;
      bytes = m.bytes;
      blocks = λ b. subst (Good x.machine.setting.count) (sym (after_block i t new f mem p (posted t mail) x off b)) (m.blocks b);
    }
