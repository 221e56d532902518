-- A hart's request: how it is made, what is kept of its answers, and how it ends. It is over when its Done is sent.
--
-- A request ends when the grant is there and each hart that the grant expects has answered. One refusal is enough to refuse it,
-- and lines that others gave up for it stay given up. As in LogTM (HPCA 2006) a refused transaction asks again, unless it has
-- refused an earlier one (its possible-cycle flag) and an earlier one refused it: then it is aborted. Here that is decided when
-- the request ends, and not at each NACK.
use Rattle.std.specs.Prelude.{ℕ, zero, suc, Bool, true, false, not, cond, ◌==◌, ◌&&◌, ◌||◌, Option, Some, None, unwrap_or}
use Rattle.std.specs.Option.{option_map, option_or}
use Rattle.words.specs.declared.stamp.Stamp.{Stamp}
use Rattle.words.specs.declared.cause.AbortCause.TheVariants.{Conflict}
use Rattle.words.specs.declared.message.Kind.{Kind}
use Rattle.words.specs.declared.message.LineState.{LineState}
use Rattle.words.specs.declared.message.LineState.TheVariants.{Shared, Exclusive, Modified}
use Rattle.flat.specs.Bytes.{put_at}
use Rattle.protocol.specs.Messages.{Block, Granted, Get, Done}
use Rattle.protocol.specs.Lines.{Line, line_filled}
use Rattle.words.specs.Stamps.{earlier}
use Rattle.protocol.specs.Hart.{Hart, Transaction, Request, HartResult, quiet, sends, stamp_of, overflow_of, with_line}

-- a request without answers
abbrev pub new_request : ℕ → Kind → Request
new_request b kind = record { block = b; kind = kind; grant = None; answered = λ j. false; refused = false; content = None; earlier = false }

-- a hart sends a request, and waits
abbrev pub ask_row : ℕ → Kind → ℕ → Hart → HartResult
ask_row i kind b h = sends (Get i b kind (stamp_of h.tx)) (record h { request = Some (new_request b kind); fresh = false })

-- what is kept of a grant
abbrev pub with_grant : Granted → Request → Request
with_grant g r = record r { grant = Some g }

-- of an acknowledgement by hart j: its content, if it has one
abbrev pub with_ack : ℕ → Option Block → Request → Request
with_ack j content r = record r { answered = put_at j true r.answered; content = option_or content r.content }

-- of a refusal by hart j: whether its stamp is earlier than one's own
abbrev pub with_nack : ℕ → Bool → Request → Request
with_nack j is_earlier r = record r { answered = put_at j true r.answered; refused = true; earlier = r.earlier || is_earlier }

-- whether each hart below n that is expected has answered
abbrev pub have_answered : ℕ → (ℕ → Bool) → (ℕ → Bool) → Bool
have_answered zero expect answered = true
have_answered (suc n) expect answered = have_answered n expect answered && (not (expect n) || answered n)

-- the content that the requester tells the directory: memory needs it only where the block is shared from now on
abbrev pub content_back : LineState → Option Block → Option Block
content_back Shared content = content
content_back Exclusive content = None
content_back Modified content = None

-- a transaction aborts when it has refused an earlier one and an earlier one refused it
abbrev pub gives_way : Bool → Transaction → Transaction
gives_way is_earlier t = cond (t.cycle && is_earlier) (record t { aborting = Some Conflict }) t

-- the line of a granted request: it is filled with an answer's content, or with memory's if none came
abbrev pub line_granted : Request → Granted → Hart → Line
line_granted r g h = line_filled g.give (overflow_of h.tx) (unwrap_or r.content g.content) (h.lines r.block)

-- a request ends granted, and the hart is fresh
abbrev pub granted_row : ℕ → Request → Granted → Hart → HartResult
granted_row i r g h =
    sends (Done i r.block true (content_back g.give r.content))
    (with_line r.block (Some (line_granted r g h)) (record h { request = None; fresh = true }))

-- a request ends refused: no line changes, and the hart is free to ask again
abbrev pub refused_row : ℕ → Request → Hart → HartResult
refused_row i r h = sends (Done i r.block false None) (record h { request = None; tx = option_map (gives_way r.earlier) h.tx })

-- the end of a request
abbrev pub end_row : ℕ → Request → Granted → Hart → HartResult
end_row i r g h = cond r.refused (refused_row i r h) (granted_row i r g h)

-- with the grant there, the request ends once all who are expected have answered; until then the hart waits
abbrev pub granted_so_far : ℕ → ℕ → Request → Option Granted → Hart → HartResult
granted_so_far n i r None h = quiet (record h { request = Some r })
granted_so_far n i r (Some g) h = cond (have_answered n g.expect r.answered) (end_row i r g h) (quiet (record h { request = Some r }))

-- an answer about block b is kept by the request for it, which may end then; where no request waits for it nothing happens (and
-- that never occurs in a machine)
abbrev pub answer_row : ℕ → ℕ → ℕ → (Request → Request) → Option Request → Hart → HartResult
answer_row n i b keep None h = quiet h
answer_row n i b keep (Some r) h = cond (r.block == b) (granted_so_far n i (keep r) (keep r).grant h) (quiet h)

-- the three answers, at hart i of n
abbrev pub grant_row : ℕ → ℕ → ℕ → Granted → Hart → HartResult
grant_row n i b g h = answer_row n i b (with_grant g) h.request h

abbrev pub ack_row : ℕ → ℕ → ℕ → ℕ → Option Block → Hart → HartResult
ack_row n i b j content h = answer_row n i b (with_ack j content) h.request h

abbrev pub nack_row : ℕ → ℕ → ℕ → ℕ → Option Stamp → Hart → HartResult
nack_row n i b j stamp h = answer_row n i b (with_nack j (earlier stamp (stamp_of h.tx))) h.request h
