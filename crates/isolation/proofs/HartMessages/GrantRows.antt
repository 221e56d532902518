-- A Grant comes to a hart.
use Rattle.std.proofs.Common.{◌≡◌, ◌<◌, ℕ, Option, None, Some, refl, sym, ap, subst, ◌∙◌}
use Rattle.std.proofs.lemmas.Bool.{true≢false}
use Rattle.words.specs.declared.entry.Entry.{Entry}
use Rattle.protocol.specs.Messages.{Granted, Message, Grant}
use Rattle.protocol.specs.Hart.{Hart, Request, HartResult}
use Rattle.protocol.specs.Requests.{granted_so_far, grant_row, with_grant as keeps_grant}
use Rattle.protocol.specs.Network.{Network, taken}
use Rattle.protocol.specs.Machine.{Machine, hart_change, ComesAbout}
use Rattle.isolation.proofs.OneBlock.Model.State.{Wait, Local}
use Rattle.isolation.proofs.OneBlock.Model.Messages.{keep_grant, on_grant, with_grant, finish}
use Rattle.isolation.proofs.OneBlock.Model.Step.{Grant_comes}
use Rattle.isolation.proofs.OneBlock.Invariant.Laws.{Known}
use Rattle.isolation.proofs.OneBlock.Invariant.Each.{Good}
use Rattle.isolation.proofs.OneBlock.Facts.Runs.{goes_on}
use Rattle.isolation.proofs.Machine.Slots.{slot, at_slot, Mail, at_here}
use Rattle.isolation.proofs.Machine.World.{World, as_grant, wait_of, local_at, project}
use Rattle.isolation.proofs.Machine.Invariant.{Inv, Next}
use Rattle.isolation.proofs.Machine.Readings.{known_at, request_of, request_alone, request_at, lies}
use Rattle.isolation.proofs.Machine.EmptySlots.{done_empty}
use Rattle.isolation.proofs.HartMessages.Arrivals.{arrived, mail_after}
use Rattle.isolation.proofs.HartMessages.Deliveries.{here_one, delivers_next}
use Rattle.isolation.proofs.HartMessages.RequestEnds.{so_far_here, finish_kept}
use Rattle.isolation.proofs.HartMessages.AnswerRows.{Answers, answer_sent, answers_deliver, answer_kept}

module _ (x : World) (v : Inv x) (key i : ℕ) (g : Granted) (r : Request) (is : (x.machine.harts i).request ≡ Some r) (there : x.machine.net key ≡ Some (Grant i r.block g)) (o : i < x.machine.setting.count) where
  abbrev n : ℕ
  n = x.machine.setting.count

  abbrev h : Hart
  h = x.machine.harts i

  abbrev m : Message
  m = Grant i r.block g

  abbrev then_kept : Request
  then_kept = keeps_grant g r

  abbrev turn : HartResult
  turn = granted_so_far n i then_kept (Some g) h

  abbrev mail : Mail
  mail = at_slot (slot 3 r.block i) None x.mail

  abbrev l : Local
  l = (project r.block x).hart i

  all : Known n (project r.block x)
  all = known_at x v r.block

  come : l.grant ≡ Some g
  come = ap as_grant (lies x v m (key, there))

  wait : l.wait ≡ Some (wait_of r)
  wait = request_at r.block h.request r is refl

  answers : Answers x key i m then_kept
  answers = record {
    is_hart = o;
    there = there;
    about = refl;
    alone = λ c d. request_alone h.request r is c d;
    empty = done_empty x v r.block i (all.free.granted i g o come);
    ran = λ e t. absurd (true≢false (sym e ∙ all.reasons.refused i (wait_of r) o t wait));
    noted = λ e. all.reasons.early i (wait_of r) o wait e;
  }

  ends : local_at x.machine.setting r.block i turn.hart (x.flat.hart i) (x.history.past i) (mail_after m turn x.mail) ≡ finish n (on_grant g l)
  ends = so_far_here x.machine.setting n i then_kept h (x.flat.hart i) (x.history.past i) mail (Some g)
      ∙ ap (λ q. with_grant n (wait_of then_kept) (Some g) (record l { grant = q; wait = Some (wait_of then_kept) })) (ap as_grant (at_here (slot 3 r.block i) None x.mail))
      ∙ sym (finish_kept n (record l { grant = None }) (keep_grant g l.wait) then_kept (ap (keep_grant g) wait))

  here : (net : Network) → Good n (project r.block (arrived i turn.hart net x.history.past (mail_after m turn x.mail) x))
  here net = here_one x i m turn r.block (finish n (on_grant g l)) net refl (answer_sent x key i m then_kept answers) ends
      (goes_on n (project r.block x) _ (v.blocks r.block) (Grant_comes i g o come))

  next : (e : Option Entry) (w : Machine) → ComesAbout (hart_change i (grant_row n i r.block g h) (record x.machine { net = taken key x.machine.net })) e w → Next x e w
  next e w c = delivers_next x key i r.block m turn e w v (answers_deliver x v key i m then_kept answers here)
      (subst (λ t. ComesAbout (hart_change i t (record x.machine { net = taken key x.machine.net })) e w) (answer_kept n i (keeps_grant g) h.request r h is) c)

-- the request that it finds keeps it, and then waits on or ends
pub grant_next : (x : World) (v : Inv x) (key i b : ℕ) (g : Granted) (e : Option Entry) (w : Machine) → x.machine.net key ≡ Some (Grant i b g) → i < x.machine.setting.count → ComesAbout (hart_change i (grant_row x.machine.setting.count i b g (x.machine.harts i)) (record x.machine { net = taken key x.machine.net })) e w → Next x e w
grant_next x v key i b g e w there o c = subst (λ q. x.machine.net key ≡ Some (Grant i q g) → ComesAbout (hart_change i (grant_row x.machine.setting.count i q g (x.machine.harts i)) (record x.machine { net = taken key x.machine.net })) e w → Next x e w) found.2 (λ y d. next x v key i g found.0 found.1 y o e w d) there c
  where
    known_wait : (w : Wait) × (((project b x).hart i).wait ≡ Some w) × (w.grant ≡ None)
    known_wait = (known_at x v b).expected.grant i g o (ap as_grant (lies x v (Grant i b g) (key, there)))

    found : (r : Request) × ((x.machine.harts i).request ≡ Some r) × (r.block ≡ b) × (wait_of r ≡ known_wait.0)
    found = request_of b (x.machine.harts i).request known_wait.0 known_wait.1
