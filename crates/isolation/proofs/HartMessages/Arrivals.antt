-- A message arrives at a hart: one hart moves, and the pasts of any; what is left to show.
use Rattle.std.proofs.Common.{◌≡◌, ◌<◌, ℕ, false, Option, None, Some, sym, ap, subst, ◌∙◌}
use Rattle.std.specs.Prelude.{option_to_list}
use Rattle.words.specs.declared.entry.Entry.{Entry}
use Rattle.flat.specs.Bytes.{put_at}
use Rattle.flat.specs.Steps.{CarriesSome}
use Rattle.flat.specs.Reasons.{Past}
use Rattle.protocol.specs.Messages.{Message}
use Rattle.protocol.specs.Hart.{Hart, HartResult}
use Rattle.protocol.specs.Network.{Network, taken}
use Rattle.protocol.specs.Machine.{Machine, hart_change, ComesAbout}
use Rattle.isolation.proofs.OneBlock.Model.State.{Local}
use Rattle.isolation.proofs.OneBlock.Invariant.Each.{Good}
use Rattle.isolation.proofs.OneBlock.Steps.FromOneHart.{same_harts}
use Rattle.isolation.proofs.Machine.Slots.{slot_of, at_slot, Mail}
use Rattle.isolation.proofs.Machine.Sends.{take_carried, send_carried}
use Rattle.isolation.proofs.Machine.World.{World, local_at, project}
use Rattle.isolation.proofs.Machine.Invariant.{HartIs, Inv, told_some, HasReason, Next}
use Rattle.isolation.proofs.HartMessages.OneHartMoves.{SentFits, fits, sent_range, take_range, posted}

-- The two machines after hart i has moved, where all that flat machine and entries say of harts is their pasts

abbrev pub arrived : ℕ → Hart → Network → (ℕ → Past) → Mail → World → World
arrived i h net p mail x = record {
  machine = record x.machine { harts = put_at i h x.machine.harts; net = net };
  flat = x.flat;
  history = record x.history { past = p };
  mail = mail;
}

-- what hart j is at block b then
abbrev pub then_at : (b j i : ℕ) → Hart → (ℕ → Past) → Mail → World → Local
then_at b j i h p mail x = local_at x.machine.setting b j (put_at i h x.machine.harts j) (x.flat.hart j) (p j) mail

-- where the harts at a block are those of a good state
pub good_at : (b i : ℕ) (h : Hart) (net : Network) (p : ℕ → Past) (mail : Mail) (x : World) (f : ℕ → Local) → ((j : ℕ) → then_at b j i h p mail x ≡ f j) → Good x.machine.setting.count (record (project b x) { hart = f }) → Good x.machine.setting.count (project b (arrived i h net p mail x))
good_at b i h net p mail x f e g = subst (Good x.machine.setting.count) (same_harts (project b x) f (λ j. then_at b j i h p mail x) (λ j. sym (e j))) g

-- the mail once message m has come, and the turn's is in flight
abbrev pub mail_after : Message → HartResult → Mail → Mail
mail_after m t mail = posted t (at_slot (slot_of m) None mail)

-- message m, under a key, comes to hart i, which makes turn t; p are the pasts then
pub record Arrives (x : World) (key i : ℕ) (m : Message) (t : HartResult) (p : ℕ → Past) : Type 0 where
  pub is_hart : i < x.machine.setting.count
  pub there : x.machine.net key ≡ Some m
  pub unstamped : t.stamped ≡ false
  pub sent : SentFits i t.sent (at_slot (slot_of m) None x.mail)
  pub carries : CarriesSome x.flat t.entry x.flat
  pub reason : HasReason x.flat x.history t.entry
  pub told : told_some x.history t.entry ≡ record x.history { past = p }
  pub harts : (j : ℕ) → HartIs x.machine.setting (put_at i t.hart x.machine.harts j) (x.flat.hart j) (p j)
  pub blocks : (b : ℕ) (net : Network) → Good x.machine.setting.count (project b (arrived i t.hart net p (mail_after m t x.mail) x))

-- what is left to show is enough
pub arrives_next : (x : World) (key i : ℕ) (m : Message) (t : HartResult) (p : ℕ → Past) (e : Option Entry) (w : Machine) → Inv x → Arrives x key i m t p → ComesAbout (hart_change i t (record x.machine { net = taken key x.machine.net })) e w → Next x e w
arrives_next x key i m t p e w v a c = subst (λ q. Next x q w) (sym c.0) (subst (Next x t.entry) (sym (c.3 ∙ ap (λ q. (hart_change i (record t { stamped = q }) (record x.machine { net = c.1 })).machine) a.unstamped)) next)
  where
    mail : Mail
    mail = at_slot (slot_of m) None x.mail

    inv : Inv (arrived i t.hart c.1 p (posted t mail) x)
    inv = record {
      same = v.same;
      carried = send_carried (option_to_list t.sent) (taken key x.machine.net) c.1 mail (take_carried x.machine.net x.mail key m v.carried a.there) c.2 (fits i t.sent mail a.sent);
      range = sent_range x.machine.setting.count i t.sent mail a.is_hart a.sent (take_range x.machine.setting.count (slot_of m) x.mail v.range);
      taken = v.taken;
      harts = a.harts;
      bytes = v.bytes;
      blocks = λ b. a.blocks b c.1;
    }

    next : Next x t.entry (record x.machine { harts = put_at i t.hart x.machine.harts; net = c.1 })
    next = record {
      flat = x.flat;
      mail = posted t mail;
      carries = a.carries;
      reason = a.reason;
      inv = subst (λ h. Inv (record (arrived i t.hart c.1 p (posted t mail) x) { history = h })) (sym a.told) inv;
    }
