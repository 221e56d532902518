-- The messages about a block are those of the one request that it is busy with, and each comes to where it is awaited.
use Rattle.std.proofs.Common.{◌≡◌, ◌<◌, ℕ, false, Option, None, Some, sym, ap, subst, ◌∙◌, arith}
use Rattle.std.specs.Option.{option_map}
use Rattle.std.proofs.lemmas.Option.{none-some, same_Some}
use Rattle.words.specs.declared.message.Kind.{Kind}
use Rattle.words.specs.declared.message.LineState.{LineState}
use Rattle.words.specs.declared.stamp.Stamp.{Stamp}
use Rattle.protocol.specs.Messages.{Block, Granted, Message, Get, Put, Done, Grant, Forward, PutAck, Ack, Nack, block_of}
use Rattle.protocol.specs.Hart.{Request}
use Rattle.isolation.proofs.OneBlock.Model.State.{Wait, Fwd}
use Rattle.isolation.specs.Facts.{whose, sort_of, IsAlike, IsInFlight, IsBusyWith, WaitsFor, OneRequest, IsAwaited}
use Rattle.isolation.proofs.Machine.Slots.{slot, slot_of}
use Rattle.isolation.proofs.Machine.World.{World, as_get, as_put, as_done, as_grant, as_forward, as_put_ack, as_ack, as_nack, wait_of, wait_at, busy_of, project}
use Rattle.isolation.proofs.Machine.Invariant.{Inv}
use Rattle.isolation.proofs.Consequences.BusyLaws.{busy_requester, busy_elsewhere}
use Rattle.isolation.proofs.Machine.Readings.{has_some, request_of, request_at, put_out_of, put_out_there, put_out_apart, busy_at, lies, in_range, known_at}

slot_is : (m : Message) → slot_of m ≡ slot (sort_of m) (block_of m) (whose m)
slot_is m = grind arith

-- messages that are alike have one slot
alike_slot : (m n : Message) → IsAlike m n → slot_of m ≡ slot_of n
alike_slot m n e = slot_is m ∙ (λ i. slot (e.sort i) (e.block i) (e.hart i)) ∙ sym (slot_is n)

whose_is : (m : Message) → (slot_of m).hart ≡ whose m
whose_is m = grind arith

module _ (x : World) (v : Inv x) where
  waits : (i b : ℕ) (w : Wait) → wait_at b (x.machine.harts i).request ≡ Some w → WaitsFor x.machine i b
  waits i b w e = let r = request_of b (x.machine.harts i).request w e in (r.0, r.1, r.2)

  busy : (b r : ℕ) (g : LineState) → (project b x).busy ≡ Some (r, g) → IsBusyWith x.machine b r g
  busy b r g e = busy_at (x.machine.entries b).busy r g e

  busy_some : (b r : ℕ) → (g : LineState) × ((project b x).busy ≡ Some (r, g)) → (g : LineState) × IsBusyWith x.machine b r g
  busy_some b r e = (e.0, busy b r e.0 e.1)

  get_waits : (i b : ℕ) (kind : Kind) (stamp : Option Stamp) → IsInFlight x.machine (Get i b kind stamp) → WaitsFor x.machine i b
  get_waits i b kind stamp e =
      let k = known_at x v b in
      let o = in_range x v (Get i b kind stamp) e in
      let w = has_some ((project b x).hart i).wait (λ z. none-some _ (sym (k.free.get i o z) ∙ ap as_get (lies x v (Get i b kind stamp) e))) in
      waits i b w.0 w.1

  grant_one : (i b : ℕ) (g : Granted) → IsInFlight x.machine (Grant i b g) → WaitsFor x.machine i b × IsBusyWith x.machine b i g.give
  grant_one i b g e =
      let o = in_range x v (Grant i b g) e in
      let m : ((project b x).hart i).grant ≡ Some g = ap as_grant (lies x v (Grant i b g) e) in
      let w = (known_at x v b).expected.grant i g o m in
      (waits i b w.0 w.1, busy b i g.give ((known_at x v b).askers.grant i g o m))

  forward_one : (j b r : ℕ) (kind : Kind) (stamp : Option Stamp) → IsInFlight x.machine (Forward j b kind r stamp) → WaitsFor x.machine r b × ((give : LineState) × IsBusyWith x.machine b r give)
  forward_one j b r kind stamp e =
      let o = in_range x v (Forward j b kind r stamp) e in
      let f : Fwd = record { kind = kind; requester = r; stamp = stamp } in
      let m : ((project b x).hart j).fwd ≡ Some f = ap as_forward (lies x v (Forward j b kind r stamp) e) in
      let w = ((known_at x v b).askers.fwd j f o m).waits in
      (waits r b w.0 w.1, busy_some b r ((known_at x v b).request.fwd j f o m))

  ack_one : (j r b : ℕ) (content : Option Block) → IsInFlight x.machine (Ack j r b content) → WaitsFor x.machine r b × ((give : LineState) × IsBusyWith x.machine b r give)
  ack_one j r b content e =
      let o = in_range x v (Ack j r b content) e in
      let m : ((project b x).hart j).ack ≡ Some (r, content) = ap as_ack (lies x v (Ack j r b content) e) in
      let w = (known_at x v b).expected.ack j r content o m in
      (waits r b w.0 w.1, busy_some b r ((known_at x v b).request.ack j r content o m))

  nack_one : (j r b : ℕ) (stamp : Option Stamp) → IsInFlight x.machine (Nack j r b stamp) → WaitsFor x.machine r b × ((give : LineState) × IsBusyWith x.machine b r give)
  nack_one j r b stamp e =
      let o = in_range x v (Nack j r b stamp) e in
      let m : ((project b x).hart j).nack ≡ Some (r, stamp) = ap as_nack (lies x v (Nack j r b stamp) e) in
      let w = (known_at x v b).expected.nack j r stamp o m in
      (waits r b w.0 w.1, busy_some b r ((known_at x v b).request.nack j r stamp o m))

  -- each message is of the request that its block is busy with
  pub one_request : OneRequest x.machine
  one_request = record {
    get = get_waits;
    grant = grant_one;
    forward = forward_one;
    ack = ack_one;
    nack = nack_one;
    done = λ i b ok content e. let m = Done i b ok content in busy_some b i ((known_at x v b).request.done i (ok, content) (in_range x v m e) (ap as_done (lies x v m e)));
    put = λ i b content marked e. let m = Put i b content marked in put_out_of b (x.machine.harts i).put (content, marked) ((known_at x v b).expected.puts i (content, marked) (in_range x v m e) (ap as_put (lies x v m e)));
    put_ack = λ i b e. let m = PutAck i b in put_out_there b (x.machine.harts i).put ((known_at x v b).expected.put_ack i (in_range x v m e) (ap as_put_ack (lies x v m e))).0;
    apart = λ i b p o w e. put_out_apart b (x.machine.harts i).put p ((known_at x v b).request.put i (wait_of w.0) o (request_at b (x.machine.harts i).request w.0 w.1 w.2)) e;
    busy = busy_requester x v;
    elsewhere = busy_elsewhere x v;
  }

  -- a hart that waits for an answer hasn't had it
  waits_ungranted : (i b : ℕ) (w : Wait) → wait_at b (x.machine.harts i).request ≡ Some w → w.grant ≡ None → (r : Request) × ((x.machine.harts i).request ≡ Some r) × (r.block ≡ b) × (r.grant ≡ None)
  waits_ungranted i b w e f = let r = request_of b (x.machine.harts i).request w e in (r.0, r.1, r.2, ap (λ z. z.grant) r.3 ∙ f)

  waits_unanswered : (i j b : ℕ) (w : Wait) → wait_at b (x.machine.harts i).request ≡ Some w → w.from j ≡ false → (r : Request) × ((x.machine.harts i).request ≡ Some r) × (r.block ≡ b) × (r.answered j ≡ false)
  waits_unanswered i j b w e f = let r = request_of b (x.machine.harts i).request w e in (r.0, r.1, r.2, ap (λ z. z.from j) r.3 ∙ f)

  -- each message is awaited, and of each there is one
  pub awaited : IsAwaited x.machine
  awaited = record {
    grant = λ i b g e. let m = Grant i b g in let w = (known_at x v b).expected.grant i g (in_range x v m e) (ap as_grant (lies x v m e)) in waits_ungranted i b w.0 w.1 w.2;
    forward = λ j b r kind stamp e. let m = Forward j b kind r stamp in ((known_at x v b).askers.fwd j (record { kind = kind; requester = r; stamp = stamp }) (in_range x v m e) (ap as_forward (lies x v m e))).apart;
    ack = λ j i b content e.
        let m = Ack j i b content in
        let o = in_range x v m e in
        let a = ap as_ack (lies x v m e) in
        let w = (known_at x v b).expected.ack j i content o a in
        ((known_at x v b).askers.ack j i content o a, waits_unanswered i j b w.0 w.1 w.2);
    nack = λ j i b stamp e.
        let m = Nack j i b stamp in
        let o = in_range x v m e in
        let a = ap as_nack (lies x v m e) in
        let w = (known_at x v b).expected.nack j i stamp o a in
        (((known_at x v b).askers.nack j i stamp o a).apart, waits_unanswered i j b w.0 w.1 w.2);
    done = one_request.done;
    put_ack = one_request.put_ack;
    owner = λ i b kind stamp e f. let m = Get i b kind stamp in (known_at x v b).request.owner i (kind, stamp) (in_range x v m e) (ap as_get (lies x v m e)) (ap (option_map busy_of) f);
    from_hart = λ m e. subst (λ z. z < x.machine.setting.count) (whose_is m) (in_range x v m e);
    once = λ k l m n e f a. same_Some k l (sym (v.carried.tidy.found k m e) ∙ ap v.carried.place (alike_slot m n a) ∙ v.carried.tidy.found l n f);
  }
