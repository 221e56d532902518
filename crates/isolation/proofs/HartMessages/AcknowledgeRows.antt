-- A Forward comes to a hart, which acknowledges it.
use Rattle.std.proofs.Common.{◌≡◌, ◌≢◌, ◌<◌, ℕ, false, Option, None, Some, refl, ap, ◌∙◌}
use Rattle.words.specs.declared.entry.Entry.{Entry}
use Rattle.words.specs.declared.stamp.Stamp.{Stamp}
use Rattle.words.specs.declared.message.Kind.{Kind}
use Rattle.flat.specs.State.{Setting, FlatHart}
use Rattle.flat.specs.Reasons.{Past}
use Rattle.flat.proofs.Maps.{put_there, put_elsewhere}
use Rattle.protocol.specs.Messages.{Forward, Ack}
use Rattle.protocol.specs.Lines.{line_given, refuses}
use Rattle.protocol.specs.Hart.{Hart, overflow_of}
use Rattle.protocol.specs.HartMessages.{acknowledge_row, content_held}
use Rattle.protocol.specs.Network.{taken}
use Rattle.protocol.specs.Machine.{Machine, hart_change, ComesAbout}
use Rattle.isolation.proofs.OneBlock.Model.State.{Fwd}
use Rattle.isolation.proofs.OneBlock.Model.Messages.{acknowledge}
use Rattle.isolation.proofs.OneBlock.Model.Step.{Fwd_acknowledged}
use Rattle.isolation.proofs.OneBlock.Facts.Runs.{goes_on}
use Rattle.isolation.proofs.OneBlock.Uses.SameStates.{good_still}
use Rattle.isolation.proofs.Machine.Slots.{slot, at_slot, Mail, at_here}
use Rattle.isolation.proofs.Machine.World.{World, as_forward, as_ack, copy_of, local_at, project}
use Rattle.isolation.proofs.Machine.Invariant.{Inv, Next, hart_beside}
use Rattle.isolation.proofs.Machine.Readings.{known_at, lies}
use Rattle.isolation.proofs.Machine.EmptySlots.{ack_empty}
use Rattle.isolation.proofs.Machine.Tables.{refuses_same, given_same, held_same}
use Rattle.isolation.proofs.HartMessages.Arrivals.{mail_after}
use Rattle.isolation.proofs.HartMessages.Deliveries.{Delivers, here_one, delivers_next}

ack_here : (s : Setting) (b i : ℕ) (k : Kind) (r : ℕ) (st : Option Stamp) (h : Hart) (f : FlatHart) (p : Past) (mail : Mail) → local_at s b i (acknowledge_row i b k r h).hart f p (mail_after (Forward i b k r st) (acknowledge_row i b k r h) mail) ≡ acknowledge k r (local_at s b i h f p mail)
ack_here s b i k r st h f p mail = λ q. record (acknowledge k r (local_at s b i h f p mail)) {
  line = (ap copy_of (put_there b (line_given k (h.lines b)) h.lines) ∙ given_same k (h.lines b)) q;
  fwd = ap as_forward (at_here (slot 4 b i) None mail) q;
  ack = (ap as_ack (at_here (slot 6 b i) (Some (Ack i r b (content_held b h))) (at_slot (slot 4 b i) None mail)) ∙ ap (λ d. Some (r, d)) (held_same b (h.lines b) h.put)) q;
}

ack_there : (s : Setting) (b c i : ℕ) (k : Kind) (r : ℕ) (h : Hart) (f : FlatHart) (p : Past) (mail : Mail) → c ≢ b → local_at s c i (acknowledge_row i b k r h).hart f p mail ≡ local_at s c i h f p mail
ack_there s b c i k r h f p mail n = λ q. record (local_at s c i h f p mail) { line = ap copy_of (put_elsewhere b c (line_given k (h.lines b)) h.lines n) q }

module _ (x : World) (v : Inv x) (key i b : ℕ) (k : Kind) (r : ℕ) (st : Option Stamp) (there : x.machine.net key ≡ Some (Forward i b k r st)) (o : i < x.machine.setting.count) where
  abbrev n : ℕ
  n = x.machine.setting.count

  abbrev h : Hart
  h = x.machine.harts i

  abbrev told : Fwd
  told = record { kind = k; requester = r; stamp = st }

  come : ((project b x).hart i).fwd ≡ Some told
  come = ap as_forward (lies x v (Forward i b k r st) (key, there))

  free : x.mail (slot 6 b i) ≡ None
  free = ack_empty x v b i ((known_at x v b).free.answer i told o come).0

  module _ (y : refuses (h.lines b) (overflow_of h.tx) k ≡ false) where
    delivers : Delivers x key i b (Forward i b k r st) (acknowledge_row i b k r h)
    delivers = record {
      is_hart = o;
      there = there;
      unstamped = refl;
      silent = refl;
      about = refl;
      sent_about = refl;
      sent = (refl, free);
      hart = hart_beside x.machine.setting h (x.flat.hart i) (x.history.past i) _ _ _ _ _ (v.harts i);
      here = λ net. here_one x i (Forward i b k r st) (acknowledge_row i b k r h) b (acknowledge k r ((project b x).hart i)) net refl (refl, free)
          (ack_here x.machine.setting b i k r st h (x.flat.hart i) (x.history.past i) x.mail)
          (goes_on n (project b x) _ (v.blocks b) (Fwd_acknowledged i told o come (refuses_same (h.lines b) (overflow_of h.tx) k ∙ y)));
      elsewhere = λ c d. good_still n (project c x) i _ (ack_there x.machine.setting b c i k r h (x.flat.hart i) (x.history.past i) x.mail d) (v.blocks c);
    }

    -- its line is given, and an Ack goes out
    pub acknowledged_next : (e : Option Entry) (w : Machine) → ComesAbout (hart_change i (acknowledge_row i b k r h) (record x.machine { net = taken key x.machine.net })) e w → Next x e w
    acknowledged_next e w c = delivers_next x key i b (Forward i b k r st) (acknowledge_row i b k r h) e w v delivers c
