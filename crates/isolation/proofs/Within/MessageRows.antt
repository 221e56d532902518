-- A message about a block in memory leaves a hart within memory, and so is the answer.
use Rattle.std.proofs.Common.{◌≡◌, ℕ, Bool, true, false, Option, None, Some, cond, refl, sym, subst}
use Rattle.std.specs.Prelude.{◌==◌, ◌&&◌}
use Rattle.words.specs.declared.stamp.Stamp.{Stamp}
use Rattle.words.specs.declared.cause.AbortCause.TheVariants.{Conflict}
use Rattle.words.specs.declared.message.Kind.{Kind}
use Rattle.words.specs.Stamps.{earlier}
use Rattle.flat.specs.State.{Setting}
use Rattle.protocol.specs.Messages.{Granted, Message, Get, Put, Done, Grant, Forward, PutAck, Ack, Nack}
use Rattle.protocol.specs.Lines.{line_given, refuses}
use Rattle.protocol.specs.Hart.{Hart, Transaction, Request, quiet, stamp_of, overflow_of, has_put_of}
use Rattle.protocol.specs.Requests.{with_grant, with_ack, with_nack, have_answered, gives_way, line_granted, granted_row, refused_row, granted_so_far, answer_row}
use Rattle.protocol.specs.HartMessages.{tx_refusing, acknowledge_row, forward_row, put_ack_row, message_row}
use Rattle.isolation.specs.Memory.{LiesInMemory, HartIsWithin}
use Rattle.isolation.proofs.Within.Harts.{MessageLies, ResultIsWithin, either, log_left, same, with_line_put, with_request, with_put}

-- a transaction that gives way keeps its log
way_log : (is_earlier : Bool) (t : Transaction) → (gives_way is_earlier t).log ≡ t.log
way_log is_earlier t = by_flag (t.cycle && is_earlier)
  where
    by_flag : (z : Bool) → (cond z (record t { aborting = Some Conflict }) t).log ≡ t.log
    by_flag true = refl
    by_flag false = refl

module _ (s : Setting) (n i : ℕ) (h : Hart) (f : HartIsWithin s h) where
  unchanged : ResultIsWithin s (quiet h)
  unchanged = record { hart = f; sent = tt }

  forwarded : (b : ℕ) (kind : Kind) (r : ℕ) (stamp : Option Stamp) → LiesInMemory s b
      → ResultIsWithin s (forward_row i b kind r stamp h)
  forwarded b kind r stamp lies = either s (refuses (h.lines b) (overflow_of h.tx) kind) _ _
      (record { hart = same s h f _ refl (log_left (tx_refusing stamp) (λ t. refl) h.tx) refl refl; sent = lies })
      (record { hart = same s _ (with_line_put s h f b (line_given kind (h.lines b)) lies) (acknowledge_row i b kind r h).hart refl refl refl refl; sent = lies })

  put_acknowledged : (b : ℕ) → ResultIsWithin s (put_ack_row b h)
  put_acknowledged b = either s (has_put_of b h.put) _ _ (record { hart = with_put s h f None tt; sent = tt }) unchanged

  -- an answer is kept by a request, and the last one ends it
  module _ (r : Request) (lies : LiesInMemory s r.block) where
    waits : ResultIsWithin s (quiet (record h { request = Some r }))
    waits = record { hart = with_request s h f (Some r) lies; sent = tt }

    refused : ResultIsWithin s (refused_row i r h)
    refused =
        let log = log_left (gives_way r.earlier) (way_log r.earlier) h.tx in
        record { hart = same s _ (with_request s h f None tt) _ refl log refl refl; sent = lies }

    granted : (g : Granted) → ResultIsWithin s (granted_row i r g h)
    granted g =
        let k = with_request s h f None tt in
        record { hart = same s _ (with_line_put s _ k r.block (Some (line_granted r g h)) lies) _ refl refl refl refl; sent = lies }

    so_far : (o : Option Granted) → ResultIsWithin s (granted_so_far n i r o h)
    so_far None = waits
    so_far (Some g) = either s (have_answered n g.expect r.answered) _ _ (either s r.refused _ _ refused (granted g)) waits

  answered : (b : ℕ) (keep : Request → Request) → ((q : Request) → (keep q).block ≡ q.block) → (o : Option Request)
      → h.request ≡ o → ResultIsWithin s (answer_row n i b keep o h)
  answered b keep is None asked = unchanged
  answered b keep is (Some q) asked =
      let lies = subst (LiesInMemory s) (sym (is q)) (f.request q asked) in
      either s (q.block == b) _ _ (so_far (keep q) lies (keep q).grant) unchanged

  pub message_within : (m : Message) → MessageLies s m → ResultIsWithin s (message_row n i m h)
  message_within (Get from b kind stamp) lies = unchanged
  message_within (Put from b content marked) lies = unchanged
  message_within (Done from b ok content) lies = unchanged
  message_within (Grant to b granted) lies = answered b (with_grant granted) (λ q. refl) h.request refl
  message_within (Forward to b kind r stamp) lies = forwarded b kind r stamp lies
  message_within (PutAck to b) lies = put_acknowledged b
  message_within (Ack j to b content) lies = answered b (with_ack j content) (λ q. refl) h.request refl
  message_within (Nack j to b stamp) lies = answered b (with_nack j (earlier stamp (stamp_of h.tx))) (λ q. refl) h.request refl
