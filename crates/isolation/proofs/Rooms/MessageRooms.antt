-- A message adds no line, unless a request ends granted by it; then there was room.
use Rattle.std.proofs.Common.{◌≡◌, ℕ, Bool, true, false, Option, None, Some, cond, refl, ap, ◌∙◌, subst}
use Rattle.std.specs.Prelude.{IsSome, ◌==◌}
use Rattle.words.specs.declared.stamp.Stamp.{Stamp}
use Rattle.words.specs.declared.message.Kind.{Kind}
use Rattle.words.specs.declared.message.Kind.TheVariants.{Read, Write}
use Rattle.words.specs.Stamps.{earlier}
use Rattle.protocol.specs.Messages.{Granted, Message, Get, Put, Done, Grant, Forward, PutAck, Ack, Nack}
use Rattle.protocol.specs.Lines.{Line, line_given, refuses}
use Rattle.protocol.specs.Hart.{Hart, Request, HartResult, quiet, stamp_of, overflow_of, has_put_of}
use Rattle.protocol.specs.Requests.{with_grant, with_ack, with_nack, have_answered, line_granted, granted_row, refused_row, end_row, granted_so_far, answer_row}
use Rattle.protocol.specs.HartMessages.{refuse_row, acknowledge_row, forward_row, put_ack_row, message_row}
use Rattle.protocol.specs.Caches.{Geometry}
use Rattle.isolation.proofs.Rooms.Sets.{LeavesRoom, Fits, put_sheds, fits_shed, fits_filled}
use Rattle.isolation.proofs.Rooms.CoreRooms.{sheds_none}

given : (kind : Kind) (o : Option Line) → IsSome (line_given kind o) → IsSome o
given kind None s = s
given Read (Some l) s = refl
given Write (Some l) s = refl

module _ (g : Geometry) (i : ℕ) (h : Hart) (f : Fits g h) where
  either : (z : Bool) (t u : HartResult) → Fits g t.hart → Fits g u.hart → Fits g (cond z t u).hart
  either true t u a b = a
  either false t u a b = b

  -- a forward
  forwarded : (b : ℕ) (kind : Kind) (r : ℕ) (stamp : Option Stamp) → Fits g (forward_row i b kind r stamp h).hart
  forwarded b kind r stamp = either (refuses (h.lines b) (overflow_of h.tx) kind) (refuse_row i b r stamp h) (acknowledge_row i b kind r h)
      (fits_shed g h _ f (sheds_none h _ refl refl))
      (fits_shed g h _ f (record { lines = put_sheds b (line_given kind (h.lines b)) h.lines (given kind (h.lines b)); waits = λ q e. (q, e, refl) }))

  -- a Put is over
  put_acked : (b : ℕ) → Fits g (put_ack_row b h).hart
  put_acked b = either (has_put_of b h.put) (quiet (record h { put = None })) (quiet h) (fits_shed g h _ f (sheds_none h _ refl refl)) f

  -- an answer to the request
  module _ (n : ℕ) (q r : Request) (asked : h.request ≡ Some q) (same : q.block ≡ r.block) where
    room : LeavesRoom g h.lines r.block
    room = subst (LeavesRoom g h.lines) same (f.waits q asked)

    -- it still waits
    waits : Fits g (quiet (record h { request = Some r })).hart
    waits = fits_shed g h _ f (record { lines = λ c s. s; waits = λ p e. (q, asked, let t : r ≡ p = cc in same ∙ ap (λ (z : Request). z.block) t) })

    -- or it ends
    refused : Fits g (refused_row i r h).hart
    refused = fits_shed g h _ f (record { lines = λ c s. s; waits = λ p e. absurd (cc) })

    granted : (a : Granted) → Fits g (granted_row i r a h).hart
    granted a = fits_filled g h r.block (line_granted r a h) f room

    ends : (a : Granted) → Fits g (end_row i r a h).hart
    ends a = either r.refused (refused_row i r h) (granted_row i r a h) refused (granted a)

    so_far : (o : Option Granted) → Fits g (granted_so_far n i r o h).hart
    so_far None = waits
    so_far (Some a) = either (have_answered n a.expect r.answered) (end_row i r a h) (quiet (record h { request = Some r })) (ends a) waits

  answered : (n b : ℕ) (keep : Request → Request) → ((q : Request) → q.block ≡ (keep q).block) → (o : Option Request) → h.request ≡ o → Fits g (answer_row n i b keep o h).hart
  answered n b keep same None e = f
  answered n b keep same (Some q) e = either (q.block == b) (granted_so_far n i (keep q) (keep q).grant h) (quiet h) (so_far n q (keep q) e (same q) (keep q).grant) f

  -- a message
  pub message_fits : (n : ℕ) (m : Message) → Fits g (message_row n i m h).hart
  message_fits n (Get from b kind stamp) = f
  message_fits n (Put from b content marked) = f
  message_fits n (Done from b ok content) = f
  message_fits n (Grant to b granted) = answered n b (with_grant granted) (λ q. refl) h.request refl
  message_fits n (Forward to b kind requester stamp) = forwarded b kind requester stamp
  message_fits n (PutAck to b) = put_acked b
  message_fits n (Ack j to b content) = answered n b (with_ack j content) (λ q. refl) h.request refl
  message_fits n (Nack j to b stamp) = answered n b (with_nack j (earlier stamp (stamp_of h.tx))) (λ q. refl) h.request refl
