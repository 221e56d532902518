-- An Ack or a Nack comes to a hart from another: the two harts at the block.
use Rattle.std.proofs.Common.{◌≡◌, ◌≢◌, ℕ, Option, None, Some, sym, ap, subst, ◌∙◌}
use Rattle.words.specs.declared.entry.Entry.{Entry}
use Rattle.protocol.specs.Messages.{Message}
use Rattle.protocol.specs.Hart.{Hart, Request, HartResult}
use Rattle.protocol.specs.Requests.{granted_so_far, answer_row}
use Rattle.protocol.specs.Network.{Network, taken}
use Rattle.protocol.specs.Machine.{Machine, hart_change, ComesAbout}
use Rattle.isolation.proofs.OneBlock.Model.State.{Wait, Local, at_hart}
use Rattle.isolation.proofs.OneBlock.Model.Messages.{with_grant, finish}
use Rattle.isolation.proofs.OneBlock.Invariant.Each.{Good}
use Rattle.isolation.proofs.Machine.Slots.{slot, slot_of, at_slot, Mail, at_else}
use Rattle.isolation.proofs.Machine.World.{World, wait_of, local_at, project}
use Rattle.isolation.proofs.Machine.Invariant.{Inv, Next}
use Rattle.isolation.proofs.HartMessages.OneHartMoves.{local_mail}
use Rattle.isolation.proofs.HartMessages.Arrivals.{arrived, mail_after}
use Rattle.isolation.proofs.HartMessages.Deliveries.{here_two, delivers_next}
use Rattle.isolation.proofs.HartMessages.RequestEnds.{so_far_here, finish_kept}
use Rattle.isolation.proofs.HartMessages.AnswerRows.{Answers, answer_sent, answers_deliver, answer_kept}

-- message m of hart j comes to i, whose request r becomes keep r; w is that request in the one-block row, and lj what j is then
module _ (x : World) (v : Inv x) (key i j : ℕ) (m : Message) (r : Request) (keep : Request → Request) (a : Answers x key i m (keep r)) (is : (x.machine.harts i).request ≡ Some r) (of : (slot_of m).hart ≡ j) (d : j ≢ i) where
  abbrev n : ℕ
  n = x.machine.setting.count

  abbrev h : Hart
  h = x.machine.harts i

  abbrev q : Request
  q = keep r

  abbrev turn : HartResult
  turn = granted_so_far n i q q.grant h

  abbrev mail : Mail
  mail = at_slot (slot_of m) None x.mail

  abbrev l : Local
  l = (project q.block x).hart i

  mine : local_at x.machine.setting q.block i h (x.flat.hart i) (x.history.past i) mail ≡ l
  mine = local_mail x.machine.setting q.block i h (x.flat.hart i) (x.history.past i) mail x.mail (λ k. at_else (slot k q.block i) (slot_of m) None x.mail (λ z. d (sym (ap (λ c. c.hart) z ∙ of))))

  module _ (w : Option Wait) (kept_is : w ≡ Some (wait_of q)) (lj : Local) (sender : local_at x.machine.setting q.block j (x.machine.harts j) (x.flat.hart j) (x.history.past j) mail ≡ lj) (good : Good n (at_hart j lj (at_hart i (finish n (record l { wait = w })) (project q.block x)))) where
    ends : local_at x.machine.setting q.block i turn.hart (x.flat.hart i) (x.history.past i) (mail_after m turn x.mail) ≡ finish n (record l { wait = w })
    ends = so_far_here x.machine.setting n i q h (x.flat.hart i) (x.history.past i) mail q.grant
        ∙ ap (λ z. with_grant n (wait_of q) q.grant (record z { wait = Some (wait_of q) })) mine
        ∙ sym (finish_kept n l w q kept_is)

    here : (net : Network) → Good n (project q.block (arrived i turn.hart net x.history.past (mail_after m turn x.mail) x))
    here net = here_two x i m turn q.block j (finish n (record l { wait = w })) lj net d of (answer_sent x key i m q a) ends sender good

    -- the answer comes, where the block's row is shown good
    pub answer_next : (e : Option Entry) (u : Machine) → ComesAbout (hart_change i (answer_row n i r.block keep h.request h) (record x.machine { net = taken key x.machine.net })) e u → Next x e u
    answer_next e u c = delivers_next x key i q.block m turn e u v (answers_deliver x v key i m q a here)
        (subst (λ t. ComesAbout (hart_change i t (record x.machine { net = taken key x.machine.net })) e u) (answer_kept n i keep h.request r h is) c)
