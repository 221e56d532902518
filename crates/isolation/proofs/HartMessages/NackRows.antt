-- A Nack comes to a hart.
use Rattle.std.proofs.Common.{◌≡◌, ◌<◌, ℕ, true, false, Option, None, Some, refl, ap, subst, ◌∙◌, ◌⊎◌, inl, inr}
use Rattle.std.proofs.lemmas.Bool.{or_cases}
use Rattle.words.specs.declared.entry.Entry.{Entry}
use Rattle.words.specs.declared.stamp.Stamp.{Stamp}
use Rattle.words.specs.Stamps.{earlier}
use Rattle.protocol.specs.Messages.{Message, Nack}
use Rattle.protocol.specs.Hart.{Hart, Request, stamp_of}
use Rattle.protocol.specs.Requests.{nack_row, with_nack}
use Rattle.protocol.specs.Network.{taken}
use Rattle.protocol.specs.Machine.{Machine, hart_change, ComesAbout}
use Rattle.isolation.proofs.OneBlock.Model.State.{sooner, Wait, Local}
use Rattle.isolation.proofs.OneBlock.Model.Messages.{keep_nack, take_nack}
use Rattle.isolation.proofs.OneBlock.Model.Step.{Nack_comes}
use Rattle.isolation.proofs.OneBlock.Invariant.Laws.{Known, Denied}
use Rattle.isolation.proofs.OneBlock.Facts.Runs.{goes_on}
use Rattle.isolation.proofs.Machine.Slots.{slot, at_slot, at_here}
use Rattle.isolation.proofs.Machine.World.{World, as_nack, wait_of, local_at, project}
use Rattle.isolation.proofs.Machine.Invariant.{Inv, Next}
use Rattle.isolation.proofs.Machine.Readings.{known_at, request_of, request_alone, request_at, lies, in_range}
use Rattle.isolation.proofs.Machine.EmptySlots.{done_empty}
use Rattle.isolation.proofs.Machine.Tables.{sooner_is}
use Rattle.isolation.proofs.HartMessages.AnswerRows.{Answers}
use Rattle.isolation.proofs.HartMessages.AnswersOfOthers.{answer_next}

keeps_nack : (j : ℕ) (st now : Option Stamp) (r : Request) (w : Option Wait) → w ≡ Some (wait_of r) → keep_nack j (sooner st now) w ≡ Some (wait_of (with_nack j (earlier st now) r))
keeps_nack j st now r w e = ap (λ z. keep_nack j z w) (sooner_is st now) ∙ ap (keep_nack j (earlier st now)) e

module _ (x : World) (v : Inv x) (key i j : ℕ) (st : Option Stamp) (r : Request) (is : (x.machine.harts i).request ≡ Some r) (there : x.machine.net key ≡ Some (Nack j i r.block st)) (o : i < x.machine.setting.count) (p : j < x.machine.setting.count) where
  abbrev n : ℕ
  n = x.machine.setting.count

  abbrev h : Hart
  h = x.machine.harts i

  abbrev m : Message
  m = Nack j i r.block st

  abbrev l : Local
  l = (project r.block x).hart i

  all : Known n (project r.block x)
  all = known_at x v r.block

  come : ((project r.block x).hart j).nack ≡ Some (i, st)
  come = ap as_nack (lies x v m (key, there))

  wait : l.wait ≡ Some (wait_of r)
  wait = request_at r.block h.request r is refl

  denied : Denied (project r.block x) j i st
  denied = all.askers.nack j i st p come

  answers : Answers x key i m (with_nack j (earlier st (stamp_of h.tx)) r)
  answers = record {
    is_hart = o;
    there = there;
    about = refl;
    alone = λ c d. request_alone h.request r is c d;
    empty = done_empty x v r.block i (all.free.nacked j i st p come);
    ran = λ e. denied.ran;
    noted = λ e. by_refusal (or_cases r.earlier (earlier st (stamp_of h.tx)) e);
  }
    where
      by_refusal : (r.earlier ≡ true) ⊎ (earlier st (stamp_of h.tx) ≡ true) → (x.history.past i).was_refused ≡ true
      by_refusal (inl z) = all.reasons.early i (wait_of r) o wait z
      by_refusal (inr z) = denied.noted (sooner_is st (stamp_of h.tx) ∙ z)

  sender : local_at x.machine.setting r.block j (x.machine.harts j) (x.flat.hart j) (x.history.past j) (at_slot (slot 7 r.block j) None x.mail) ≡ take_nack ((project r.block x).hart j)
  sender = λ k. record (take_nack ((project r.block x).hart j)) { nack = ap as_nack (at_here (slot 7 r.block j) None x.mail) k }

  next : (e : Option Entry) (w : Machine) → ComesAbout (hart_change i (nack_row n i r.block j st h) (record x.machine { net = taken key x.machine.net })) e w → Next x e w
  next = answer_next x v key i j m r (with_nack j (earlier st (stamp_of h.tx))) answers is refl denied.apart
      (keep_nack j (sooner st l.own.stamp) l.wait) (keeps_nack j st (stamp_of h.tx) r l.wait wait)
      (take_nack ((project r.block x).hart j)) sender
      (goes_on n (project r.block x) _ (v.blocks r.block) (Nack_comes j i st p come))

-- the request that it finds keeps it, and then waits on or ends
pub nack_next : (x : World) (v : Inv x) (key i j b : ℕ) (st : Option Stamp) (e : Option Entry) (w : Machine) → x.machine.net key ≡ Some (Nack j i b st) → i < x.machine.setting.count → ComesAbout (hart_change i (nack_row x.machine.setting.count i b j st (x.machine.harts i)) (record x.machine { net = taken key x.machine.net })) e w → Next x e w
nack_next x v key i j b st e w there o c = subst (λ q. x.machine.net key ≡ Some (Nack j i q st) → ComesAbout (hart_change i (nack_row x.machine.setting.count i q j st (x.machine.harts i)) (record x.machine { net = taken key x.machine.net })) e w → Next x e w) found.2 (λ y d. next x v key i j st found.0 found.1 y o within e w d) there c
  where
    inside : x.mail (slot 7 b j) ≡ Some (Nack j i b st)
    inside = lies x v (Nack j i b st) (key, there)

    within : j < x.machine.setting.count
    within = in_range x v (Nack j i b st) (key, there)

    known_wait : (w : Wait) × (((project b x).hart i).wait ≡ Some w) × (w.from j ≡ false)
    known_wait = (known_at x v b).expected.nack j i st within (ap as_nack inside)

    found : (r : Request) × ((x.machine.harts i).request ≡ Some r) × (r.block ≡ b) × (wait_of r ≡ known_wait.0)
    found = request_of b (x.machine.harts i).request known_wait.0 known_wait.1
