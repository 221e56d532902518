-- A request that is served at once, while no other message is in flight: what its messages do, one after another.
use Rattle.std.specs.Prelude.{ℕ, ◌≡◌, ◌≢◌, ◌<◌, ◌≤◌, ◌+◌, ◌==◌, ◌++◌, ◌||◌, Bool, true, false, List, [], ◌∷◌, length, map, count_by, Option, Some, None, IsSome, IsSomeAnd, option_to_list, slice_set}
use Rattle.std.specs.List.{FoldsTo, slice_index_or}
use Rattle.words.specs.Harts.{names}
use Rattle.words.specs.Limits.{most_harts}
use Rattle.words.specs.declared.entry.Entry.{Entry}
use Rattle.words.specs.declared.entry.Step.TheVariants.{Deliver}
use Rattle.flat.specs.Bytes.{put_at}
use Rattle.network.specs.Flights.{IsAlone}
use Rattle.protocol.specs.Caches.{Geometry}
use Rattle.protocol.specs.Messages.{Message, Granted, Get, Grant, Forward, block_of, receiver_of}
use Rattle.protocol.specs.HartMessages.{message_row}
use Rattle.directory.specs.declared.rules.Request.{Request}
use Rattle.directory.specs.Blocks.{Blocks, KeepsUsed, SetsBlock, row_of}
use Rattle.hart.specs.declared.reply.ForwardAnswer.{ForwardAnswer}
use Rattle.hart.specs.declared.reply.ForwardAnswer.TheVariants.{Ack, Nack}
use Rattle.hart.specs.declared.reply.Settled.{Settled}
use Rattle.hart.specs.Places.{KeepsWays}
use Rattle.hart.specs.Rows.{done_of, answer_of, refusal_of}
use Rattle.hart.specs.Shown.{shown_hart}
use Rattle.hart.specs.Staying.{StaysPut}
use Rattle.machine.specs.Mail.{SendsOn, in_flight, mail_of}
use Rattle.machine.specs.States.{Seat, State, hart_at}
use Rattle.machine.specs.Turns.{TakesTurn}
use Rattle.machine.specs.declared.serving.Service.{Service}

-- hart i does with a message what its row says, and no other hart changes; what it sends and shows depends on its number
pub record Hears (sets i : ℕ) (m : Message) (old new : List Seat) (sent : ℕ → Option Message) (entry : ℕ → Option Entry) : Type 0 where
  pub was : Seat
  pub is : Seat
  pub number : i < length old
  pub before : was ≡ slice_index_or old i was
  pub after : new ≡ slice_set old i is
  pub output : is.output ≡ was.output
  pub row : (output : List ℕ) → message_row was.hart.harts was.hart.index m (shown_hart sets output was.hart)
      ≡ record { hart = shown_hart sets output is.hart; sent = sent is.hart.index; entry = entry is.hart.index; stamped = false }
  pub ways : KeepsWays sets was.hart.cache is.hart.cache
  pub stays : StaysPut was.hart is.hart

-- a hart's request goes on so behind an answer to it
abbrev pub Settles : ℕ → ℕ → Message → List Seat → List Seat → Settled → Type 0
Settles sets i m old new settled = Hears sets i m old new (λ n. done_of n settled) (λ n. None)

-- a request, forwarded to a hart
abbrev pub forward_of : Request → ℕ → Message
forward_of q to = Forward to q.block q.kind q.requester q.stamp

-- another hart answers a request that is forwarded to it
abbrev pub Replies : ℕ → Request → ℕ → List Seat → List Seat → ForwardAnswer → Type 0
Replies sets q to old new reply = (to ≢ q.requester) × Hears sets to (forward_of q to) old new (λ n. Some (answer_of n q.requester q.block reply)) (λ n. refusal_of n q.requester q.block reply)

-- harts answer a request one after another, and each answer arrives; it went on so before, and then
abbrev pub AnsweredBy : ℕ → Request → List (ℕ × ForwardAnswer) → List Seat → Settled → List Seat → Settled → Type 0
AnsweredBy sets q [] old before new settled = (new ≡ old) × (settled ≡ before)
AnsweredBy sets q (x ∷ xs) old before new settled =
    (asked : List Seat) × (told : List Seat) × (next : Settled)
    × Replies sets q x.0 old asked x.1 × Settles sets q.requester (answer_of x.0 q.requester q.block x.1) asked told next × AnsweredBy sets q xs told next new settled

-- a request is granted, and harts answer it so
abbrev pub Answered : ℕ → Request → Granted → List (ℕ × ForwardAnswer) → List Seat → List Seat → Settled → Type 0
Answered sets q granted xs old new settled =
    (first : Settled) × (waiting : List Seat) × Settles sets q.requester (Grant q.requester q.block granted) old waiting first × AnsweredBy sets q xs waiting first new settled

-- a request is forwarded to each of these harts
abbrev pub forwards_to : Request → List (ℕ × ForwardAnswer) → List Message
forwards_to q xs = map (λ x. forward_of q x.0) xs

-- the directory is told the end of a request, where it has ended: so many messages
abbrev pub Ends : Option Message → Blocks → Blocks → ℕ → Type 0
Ends None old new number = (new ≡ old) × (number ≡ 0)
Ends (Some m) old new number = (number ≡ 1) × KeepsUsed new × IsSomeAnd (row_of old m) (λ served. SetsBlock old new (block_of m) served.entry served.memory × (served.sent ≡ []))

-- The turns

-- a message that arrives: which, what is sent then, and the entry that this gives, if one
pub record Arrival : Type 0 where
  pub message : Message
  pub sent : List Message
  pub entry : Option Entry

-- it is its turn, and it arrives. It changes nothing but its hart, or the directory
pub record Arrives (g : Geometry) (v : State) (a : Arrival) (w : State) : Type 0 where
  pub number : ℕ
  pub here : in_flight v.flights number ≡ Some a.message
  pub turn : (after : ℕ) → TakesTurn g v after (Deliver number) a.entry w
  pub sends : SendsOn (put_at number None (mail_of v.flights)) v.sent a.sent (mail_of w.flights) w.sent
  pub others : (i : ℕ) → receiver_of a.message ≢ Some i → hart_at g.sets w.seats i ≡ hart_at g.sets v.seats i
  pub directory : IsSome (receiver_of a.message) → w.directory ≡ v.directory

-- and so one after another
abbrev pub ArriveAll : Geometry → State → List Arrival → State → Type 0
ArriveAll g v [] w = w ≡ v
ArriveAll g v (a ∷ ds) w = (u : State) × Arrives g v a u × ArriveAll g u ds w

-- the end of a request, where it has ended
abbrev pub end_of : Request → Settled → List Message
end_of q settled = option_to_list (done_of q.requester settled)

-- a request arrives, and is forwarded
abbrev pub get_arrival : Request → Granted → List (ℕ × ForwardAnswer) → Arrival
get_arrival q granted xs = record { message = Get q.requester q.block q.kind q.stamp; sent = Grant q.requester q.block granted ∷ forwards_to q xs; entry = None }

-- the last that the requester hears tells it how its request has ended: its grant, where nobody is asked, and else the last answer
abbrev pub sent_with_grant : Request → List (ℕ × ForwardAnswer) → Settled → List Message
sent_with_grant q [] settled = end_of q settled
sent_with_grant q (x ∷ xs) settled = []

abbrev pub grant_arrival : Request → Granted → List (ℕ × ForwardAnswer) → Settled → Arrival
grant_arrival q granted xs settled = record { message = Grant q.requester q.block granted; sent = sent_with_grant q xs settled; entry = None }

abbrev pub forward_arrivals : Request → List (ℕ × ForwardAnswer) → List Arrival
forward_arrivals q [] = []
forward_arrivals q (x ∷ xs) =
    record { message = forward_of q x.0; sent = answer_of x.0 q.requester q.block x.1 ∷ []; entry = refusal_of x.0 q.requester q.block x.1 } ∷ forward_arrivals q xs

abbrev pub answer_arrival : Request → ℕ × ForwardAnswer → List Message → Arrival
answer_arrival q x sent = record { message = answer_of x.0 q.requester q.block x.1; sent = sent; entry = None }

abbrev pub answer_arrivals : Request → List (ℕ × ForwardAnswer) → Settled → List Arrival
answer_arrivals q [] settled = []
answer_arrivals q (x ∷ []) settled = answer_arrival q x (end_of q settled) ∷ []
answer_arrivals q (x ∷ y ∷ ys) settled = answer_arrival q x [] ∷ answer_arrivals q (y ∷ ys) settled

abbrev pub end_arrivals : List Message → List Arrival
end_arrivals ms = map (λ m. record { message = m; sent = []; entry = None }) ms

-- what arrives behind the request: its grant, the forwards, the answers, and its end
abbrev pub arrivals_behind : Request → Granted → List (ℕ × ForwardAnswer) → Settled → List Arrival
arrivals_behind q granted xs settled = grant_arrival q granted xs settled ∷ ((forward_arrivals q xs ++ answer_arrivals q xs settled) ++ end_arrivals (end_of q settled))

-- whether a hart is among those that are asked, and whether it refuses
abbrev pub is_asked : List (ℕ × ForwardAnswer) → ℕ → Bool
is_asked [] i = false
is_asked (x ∷ xs) i = (x.0 == i) || is_asked xs i

abbrev pub refuses : ForwardAnswer → Bool
refuses (Ack content) = false
refuses (Nack stamp) = true

-- this is told of the harts that are asked: which they are, how many, and how many of them refuse
pub record Tells (xs : List (ℕ × ForwardAnswer)) (asked number refusals : ℕ) : Type 0 where
  pub asked_is : (i : ℕ) → names asked i ≡ is_asked xs i
  pub number_is : number ≡ length xs
  pub refusals_is : refusals ≡ count_by refuses (map (λ x. x.1) xs)

-- the only message in flight was a request; it was granted, those that it was forwarded to answered so, and it went on so. This is told of it
pub record IsServed (g : Geometry) (v : State) (s : Service) (xs : List (ℕ × ForwardAnswer)) (w : State) : Type 0 where
  pub request : Request
  pub granted : Granted
  pub settled : Settled
  pub number : ℕ
  pub only : IsAlone v.flights number
  pub few : v.sent + 32 ≤ 18446744073709551615
  pub harts : length xs ≤ most_harts
  pub mid : State
  pub first : Arrives g v (get_arrival request granted xs) mid
  pub rest : ArriveAll g mid (arrivals_behind request granted xs settled) w
  pub waits : (i : ℕ) → i ≢ request.requester → (hart_at g.sets w.seats i).request ≡ (hart_at g.sets v.seats i).request
  pub requester : s.requester ≡ request.requester
  pub block : s.block ≡ request.block
  pub told : Tells xs s.asked s.answers s.refusals
  pub ended : s.ended ≡ length (end_of request settled)
  pub used : s.used ≡ length mid.directory.kept

-- the answers of harts to a request are heard one after another, each as the entry that it gives, if one, where this comes of hearing what a step gave
abbrev pub HearsReplies : {L : Type 0} → (L → Option Entry → L → Type 0) → ℕ → ℕ → L → List (ℕ × ForwardAnswer) → L → Type 0
HearsReplies hears r b x replies y = FoldsTo (λ l reply m. hears l (refusal_of reply.0 r b reply.1) m) x replies y
