-- Who acknowledged a request has given up what it may not keep; and the request of an undo is forwarded to nobody and never refused.
use Rattle.std.proofs.Common.{◌≡◌, ◌≢◌, ◌<◌, ℕ, true, false, Option, Some, refl, sym, ap, ◌∙◌}
use Rattle.std.specs.Option.{option_map}
use Rattle.std.proofs.lemmas.Option.{none-some}
use Rattle.words.specs.declared.message.Kind.{Kind}
use Rattle.words.specs.declared.message.Kind.TheVariants.{Write}
use Rattle.words.specs.declared.message.LineState.{LineState}
use Rattle.words.specs.declared.message.LineState.TheVariants.{Shared, Exclusive, Modified}
use Rattle.words.specs.declared.stamp.Stamp.{Stamp}
use Rattle.protocol.specs.Messages.{Done, Forward, Ack}
use Rattle.words.specs.LineStates.{is_owned}
use Rattle.protocol.specs.Lines.{Line}
use Rattle.isolation.proofs.OneBlock.Model.State.{Fwd}
use Rattle.isolation.proofs.OneBlock.Model.Core.{enough}
use Rattle.isolation.proofs.OneBlock.Invariant.Laws.{GaveUp as LocalGaveUp}
use Rattle.isolation.specs.Facts.{IsInFlight, IsBusyWith, IsGranted, GaveUp, Acknowledged, UndosGoThrough}
use Rattle.isolation.specs.Belongs.{IsAborting}
use Rattle.isolation.proofs.Machine.World.{World, as_done, as_forward, as_ack, copy_of, wait_of, busy_of, project}
use Rattle.isolation.proofs.Machine.Invariant.{Inv}
use Rattle.isolation.proofs.Machine.Readings.{request_at, no_line, aborting_at, lies, in_range, known_at}
use Rattle.isolation.proofs.Machine.Tables.{owned_same}
use Rattle.isolation.proofs.Consequences.RequestLaws.{one_request}

-- a line that isn't enough for a write is no E or M line
not_owned : (o : Option Line) → enough Write (copy_of o) ≡ false → (l : Line) → o ≡ Some l → is_owned l.state ≡ false
not_owned o e l f = sym (owned_same l) ∙ ap (λ z. enough Write (copy_of z)) (sym f) ∙ e

module _ (x : World) where
  gave_up : (j b : ℕ) (give : LineState) → LocalGaveUp give ((project b x).hart j) → GaveUp x.machine x.flat j b give
  gave_up j b Shared g = record { line = not_owned ((x.machine.harts j).lines b) g.0; unwritten = g.1 }
  gave_up j b Exclusive g = record { line = no_line ((x.machine.harts j).lines b) g.0; unread = g.1; unwritten = g.2 }
  gave_up j b Modified g = record { line = no_line ((x.machine.harts j).lines b) g.0; unread = g.1; unwritten = g.2 }

  busy_is : (b r : ℕ) (give : LineState) → IsBusyWith x.machine b r give → (project b x).busy ≡ Some (r, give)
  busy_is b r give e = ap (option_map busy_of) e

  module _ (v : Inv x) where
    granted : (j r b : ℕ) (give : LineState) → j < x.machine.setting.count → j ≢ r → IsGranted x.machine b r give → GaveUp x.machine x.flat j b give
    granted j r b give o n e =
        let m = Done r b true e.1.0 in
        gave_up j b give ((known_at x v b).acknowledged.ended j r give e.1.0 o (in_range x v m e.1.1) n (busy_is b r give e.0) (ap as_done (lies x v m e.1.1)))

    -- whoever acknowledged: its Ack is in flight, or kept, or the request was granted
    pub acknowledged : Acknowledged x.machine x.flat
    acknowledged = record {
      sent = λ j r b content give e q. let m = Ack j r b content in gave_up j b give ((known_at x v b).acknowledged.sent j r content give (in_range x v m e) (ap as_ack (lies x v m e)) (busy_is b r give q));
      kept = λ j r q give o p n e u a f. gave_up j q.block give ((known_at x v q.block).acknowledged.kept j r give (wait_of q) o p n (busy_is q.block r give u) (request_at q.block (x.machine.harts r).request q e refl) a f);
      granted = granted;
    }

    -- the hart whose request is forwarded isn't being aborted
    no_forward : (i j b : ℕ) (kind : Kind) (stamp : Option Stamp) → IsAborting (x.machine.harts i) → IsInFlight x.machine (Forward j b kind i stamp) → ⊥
    no_forward i j b kind stamp a e =
        let k = known_at x v b in
        let m = Forward j b kind i stamp in
        let f : Fwd = record { kind = kind; requester = i; stamp = stamp } in
        let u = (one_request x v).forward j b i kind stamp e in
        let w = u.0 in
        let o = k.busy_in (i, u.1.0) (busy_is b i u.1.0 u.1.1) in
        k.reasons.undo i j f o (in_range x v m e) (aborting_at (x.machine.harts i) a) (λ z. none-some _ (sym z ∙ request_at b (x.machine.harts i).request w.0 w.1 w.2)) (ap as_forward (lies x v m e)) refl

    -- the request of an undo
    pub undos : UndosGoThrough x.machine
    undos = record {
      forward = no_forward;
      refused = λ i r o a e. (known_at x v r.block).reasons.refused i (wait_of r) o (aborting_at (x.machine.harts i) a) (request_at r.block (x.machine.harts i).request r e refl);
    }
