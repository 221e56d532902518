-- What a hart does with a message.
--
-- As in LogTM (HPCA 2006) a hart refuses a forward (NACK) if the line's marks, or without a line the overflow bit, may tell of a
-- conflict, and sets its possible-cycle flag if the requester's transaction is the earlier. Otherwise it shares the line, or
-- gives it up. Its answer has the content of an E or M line, or of the hart's own Put of the block while that isn't over; else
-- the requester takes memory's.
use Rattle.std.specs.Prelude.{ℕ, false, cond, ◌||◌, Option, Some, None}
use Rattle.std.specs.Option.{option_map, option_or}
use Rattle.words.specs.declared.stamp.Stamp.{Stamp}
use Rattle.words.specs.declared.entry.Entry.TheVariants.{Refuse}
use Rattle.words.specs.declared.message.Kind.{Kind}
use Rattle.words.specs.declared.message.Kind.TheVariants.{Read, Write}
use Rattle.flat.specs.Reservation.{without_block}
use Rattle.protocol.specs.Messages.{Block, Message, Get, Put, Done, Grant, Forward, PutAck, Ack, Nack}
use Rattle.protocol.specs.Lines.{refuses, line_given, owned_content}
use Rattle.words.specs.Stamps.{earlier}
use Rattle.protocol.specs.Hart.{Hart, Transaction, HartResult, quiet, sends, stamp_of, overflow_of, with_line, has_put_of, put_content}
use Rattle.protocol.specs.Requests.{grant_row, ack_row, nack_row}

-- a transaction that refuses: its flag is set if the request's stamp is earlier than its own
abbrev pub tx_refusing : Option Stamp → Transaction → Transaction
tx_refusing stamp t = record t { cycle = t.cycle || earlier stamp (Some t.stamp) }

-- hart i keeps block b from hart r
abbrev pub refuse_row : ℕ → ℕ → ℕ → Option Stamp → Hart → HartResult
refuse_row i b r stamp h = record {
  hart = record h { tx = option_map (tx_refusing stamp) h.tx };
  sent = Some (Nack i r b (stamp_of h.tx));
  entry = Some (Refuse i r b);
  stamped = false;
}

-- what a hart may have of a block and memory lack: the content of an E or M line, or of its Put
abbrev pub content_held : ℕ → Hart → Option Block
content_held b h = option_or (owned_content (h.lines b)) (put_content b h.put)

-- what a forward that is met leaves of a reservation: it goes with its line
abbrev pub reserved_given : Kind → ℕ → Option ℕ → Option ℕ
reserved_given Read b r = r
reserved_given Write b r = without_block b r

-- hart i acknowledges hart r's request
abbrev pub acknowledge_row : ℕ → ℕ → Kind → ℕ → Hart → HartResult
acknowledge_row i b kind r h = sends (Ack i r b (content_held b h)) (with_line b (line_given kind (h.lines b)) (record h { reserved = reserved_given kind b h.reserved }))

abbrev pub forward_row : ℕ → ℕ → Kind → ℕ → Option Stamp → Hart → HartResult
forward_row i b kind r stamp h = cond (refuses (h.lines b) (overflow_of h.tx) kind) (refuse_row i b r stamp h) (acknowledge_row i b kind r h)

-- the hart's Put of block b is over
abbrev pub put_ack_row : ℕ → Hart → HartResult
put_ack_row b h = cond (has_put_of b h.put) (quiet (record h { put = None })) (quiet h)

-- what hart i of n does with a message; one for the directory it passes over (and that never occurs in a machine)
abbrev pub message_row : ℕ → ℕ → Message → Hart → HartResult
message_row n i (Get from b kind stamp) h = quiet h
message_row n i (Put from b content marked) h = quiet h
message_row n i (Done from b ok content) h = quiet h
message_row n i (Grant to b granted) h = grant_row n i b granted h
message_row n i (Forward to b kind requester stamp) h = forward_row i b kind requester stamp h
message_row n i (PutAck to b) h = put_ack_row b h
message_row n i (Ack from to b content) h = ack_row n i b from content h
message_row n i (Nack from to b stamp) h = nack_row n i b from stamp h
