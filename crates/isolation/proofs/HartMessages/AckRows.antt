-- An Ack comes to a hart.
use Rattle.std.proofs.Common.{◌≡◌, ◌<◌, ℕ, false, Option, None, Some, refl, sym, ap, subst, ◌∙◌}
use Rattle.std.proofs.lemmas.Bool.{true≢false}
use Rattle.words.specs.declared.entry.Entry.{Entry}
use Rattle.protocol.specs.Messages.{Block, Message, Ack}
use Rattle.protocol.specs.Hart.{Hart, Request}
use Rattle.protocol.specs.Requests.{ack_row, with_ack}
use Rattle.protocol.specs.Network.{taken}
use Rattle.protocol.specs.Machine.{Machine, hart_change, ComesAbout}
use Rattle.isolation.proofs.OneBlock.Model.State.{Wait, Local}
use Rattle.isolation.proofs.OneBlock.Model.Messages.{keep_ack, take_ack}
use Rattle.isolation.proofs.OneBlock.Model.Step.{Ack_comes}
use Rattle.isolation.proofs.OneBlock.Invariant.Laws.{Known}
use Rattle.isolation.proofs.OneBlock.Facts.Runs.{goes_on}
use Rattle.isolation.proofs.Machine.Slots.{slot, at_slot, at_here}
use Rattle.isolation.proofs.Machine.World.{World, as_ack, wait_of, local_at, project}
use Rattle.isolation.proofs.Machine.Invariant.{Inv, Next}
use Rattle.isolation.proofs.Machine.Readings.{known_at, request_of, request_alone, request_at, lies, in_range}
use Rattle.isolation.proofs.Machine.EmptySlots.{done_empty}
use Rattle.isolation.proofs.Machine.Tables.{first_same}
use Rattle.isolation.proofs.HartMessages.AnswerRows.{Answers}
use Rattle.isolation.proofs.HartMessages.AnswersOfOthers.{answer_next}

keeps_ack : (j : ℕ) (d : Option Block) (r : Request) (w : Option Wait) → w ≡ Some (wait_of r) → keep_ack j d w ≡ Some (wait_of (with_ack j d r))
keeps_ack j d r w e = ap (keep_ack j d) e ∙ ap (λ z. Some (record (wait_of (with_ack j d r)) { content = z })) (sym (first_same d r.content))

module _ (x : World) (v : Inv x) (key i j : ℕ) (content : Option Block) (r : Request) (is : (x.machine.harts i).request ≡ Some r) (there : x.machine.net key ≡ Some (Ack j i r.block content)) (o : i < x.machine.setting.count) (p : j < x.machine.setting.count) where
  abbrev n : ℕ
  n = x.machine.setting.count

  abbrev h : Hart
  h = x.machine.harts i

  abbrev m : Message
  m = Ack j i r.block content

  abbrev l : Local
  l = (project r.block x).hart i

  all : Known n (project r.block x)
  all = known_at x v r.block

  come : ((project r.block x).hart j).ack ≡ Some (i, content)
  come = ap as_ack (lies x v m (key, there))

  wait : l.wait ≡ Some (wait_of r)
  wait = request_at r.block h.request r is refl

  answers : Answers x key i m (with_ack j content r)
  answers = record {
    is_hart = o;
    there = there;
    about = refl;
    alone = λ c d. request_alone h.request r is c d;
    empty = done_empty x v r.block i (all.free.acked j i content p come);
    ran = λ e t. absurd (true≢false (sym e ∙ all.reasons.refused i (wait_of r) o t wait));
    noted = λ e. all.reasons.early i (wait_of r) o wait e;
  }

  sender : local_at x.machine.setting r.block j (x.machine.harts j) (x.flat.hart j) (x.history.past j) (at_slot (slot 6 r.block j) None x.mail) ≡ take_ack ((project r.block x).hart j)
  sender = λ k. record (take_ack ((project r.block x).hart j)) { ack = ap as_ack (at_here (slot 6 r.block j) None x.mail) k }

  next : (e : Option Entry) (w : Machine) → ComesAbout (hart_change i (ack_row n i r.block j content h) (record x.machine { net = taken key x.machine.net })) e w → Next x e w
  next = answer_next x v key i j m r (with_ack j content) answers is refl (all.askers.ack j i content p come)
      (keep_ack j content l.wait) (keeps_ack j content r l.wait wait)
      (take_ack ((project r.block x).hart j)) sender
      (goes_on n (project r.block x) _ (v.blocks r.block) (Ack_comes j i content p come))

-- the request that it finds keeps it, and then waits on or ends
pub ack_next : (x : World) (v : Inv x) (key i j b : ℕ) (content : Option Block) (e : Option Entry) (w : Machine) → x.machine.net key ≡ Some (Ack j i b content) → i < x.machine.setting.count → ComesAbout (hart_change i (ack_row x.machine.setting.count i b j content (x.machine.harts i)) (record x.machine { net = taken key x.machine.net })) e w → Next x e w
ack_next x v key i j b content e w there o c = subst (λ q. x.machine.net key ≡ Some (Ack j i q content) → ComesAbout (hart_change i (ack_row x.machine.setting.count i q j content (x.machine.harts i)) (record x.machine { net = taken key x.machine.net })) e w → Next x e w) found.2 (λ y d. next x v key i j content found.0 found.1 y o within e w d) there c
  where
    inside : x.mail (slot 6 b j) ≡ Some (Ack j i b content)
    inside = lies x v (Ack j i b content) (key, there)

    within : j < x.machine.setting.count
    within = in_range x v (Ack j i b content) (key, there)

    known_wait : (w : Wait) × (((project b x).hart i).wait ≡ Some w) × (w.from j ≡ false)
    known_wait = (known_at x v b).expected.ack j i content within (ap as_ack inside)

    found : (r : Request) × ((x.machine.harts i).request ≡ Some r) × (r.block ≡ b) × (wait_of r ≡ known_wait.0)
    found = request_of b (x.machine.harts i).request known_wait.0 known_wait.1
