-- Each message that arrives at a hart keeps the invariant.
use Rattle.std.proofs.Common.{◌≡◌, ◌<◌, ℕ, Bool, true, false, Option, Some, cond, refl, subst, sym}
use Rattle.std.proofs.lemmas.Option.{same_Some}
use Rattle.words.specs.declared.entry.Entry.{Entry}
use Rattle.words.specs.declared.message.Kind.{Kind}
use Rattle.words.specs.declared.stamp.Stamp.{Stamp}
use Rattle.protocol.specs.Messages.{Message, Get, Put, Done, Grant, Forward, PutAck, Ack, Nack, receiver_of}
use Rattle.protocol.specs.Lines.{refuses}
use Rattle.protocol.specs.Hart.{overflow_of}
use Rattle.protocol.specs.HartMessages.{refuse_row, acknowledge_row, message_row}
use Rattle.protocol.specs.Network.{taken}
use Rattle.protocol.specs.Machine.{Machine, hart_change, ComesAbout}
use Rattle.isolation.proofs.Machine.World.{World}
use Rattle.isolation.proofs.Machine.Invariant.{Inv, Next}
use Rattle.isolation.proofs.HartMessages.PutAckRows.{put_ack_next}
use Rattle.isolation.proofs.HartMessages.AcknowledgeRows.{acknowledged_next}
use Rattle.isolation.proofs.HartMessages.RefuseRows.{refused_next}
use Rattle.isolation.proofs.HartMessages.GrantRows.{grant_next}
use Rattle.isolation.proofs.HartMessages.AckRows.{ack_next}
use Rattle.isolation.proofs.HartMessages.NackRows.{nack_next}

module _ (x : World) (v : Inv x) (key i : ℕ) (e : Option Entry) (w : Machine) (o : i < x.machine.setting.count) where
  -- what hart i does with message m leads to such a machine
  abbrev Leads : Message → Type 0
  Leads m = ComesAbout (hart_change i (message_row x.machine.setting.count i m (x.machine.harts i)) (record x.machine { net = taken key x.machine.net })) e w → Next x e w

  forward_next : (b : ℕ) (k : Kind) (r : ℕ) (st : Option Stamp) → x.machine.net key ≡ Some (Forward i b k r st) → Leads (Forward i b k r st)
  forward_next b k r st there = go (refuses ((x.machine.harts i).lines b) (overflow_of (x.machine.harts i).tx) k) refl
    where
      go : (q : Bool) → refuses ((x.machine.harts i).lines b) (overflow_of (x.machine.harts i).tx) k ≡ q → ComesAbout (hart_change i (cond q (refuse_row i b r st (x.machine.harts i)) (acknowledge_row i b k r (x.machine.harts i))) (record x.machine { net = taken key x.machine.net })) e w → Next x e w
      go true y = refused_next x v key i b k r st there o y e w
      go false y = acknowledged_next x v key i b k r st there o y e w

  by_receiver : (to : ℕ) (m : ℕ → Message) → ((y : x.machine.net key ≡ Some (m i)) → Leads (m i)) → Some to ≡ Some i → x.machine.net key ≡ Some (m to) → Leads (m to)
  by_receiver to m next r = subst (λ q. x.machine.net key ≡ Some (m q) → Leads (m q)) (sym (same_Some to i r)) next

  by_message : (m : Message) → receiver_of m ≡ Some i → x.machine.net key ≡ Some m → Leads m
  by_message (Get from b k st) r = absurd (cc)
  by_message (Put from b content marked) r = absurd (cc)
  by_message (Done from b ok content) r = absurd (cc)
  by_message (Grant to b g) r = by_receiver to (λ q. Grant q b g) (λ y c. grant_next x v key i b g e w y o c) r
  by_message (Forward to b k q st) r = by_receiver to (λ z. Forward z b k q st) (λ y c. forward_next b k q st y c) r
  by_message (PutAck to b) r = by_receiver to (λ q. PutAck q b) (λ y c. put_ack_next x v key i b y o e w c) r
  by_message (Ack from to b content) r = by_receiver to (λ q. Ack from q b content) (λ y c. ack_next x v key i from b content e w y o c) r
  by_message (Nack from to b st) r = by_receiver to (λ q. Nack from q b st) (λ y c. nack_next x v key i from b st e w y o c) r

-- whichever message it is
pub message_next : (x : World) (v : Inv x) (key i : ℕ) (m : Message) (e : Option Entry) (w : Machine) → x.machine.net key ≡ Some m → receiver_of m ≡ Some i → i < x.machine.setting.count → ComesAbout (hart_change i (message_row x.machine.setting.count i m (x.machine.harts i)) (record x.machine { net = taken key x.machine.net })) e w → Next x e w
message_next x v key i m e w there r o c = by_message x v key i e w o m r there c
