-- A request that is served at once: the turns of its messages.
use Rattle.std.proofs.Common.{◌≡◌, ◌≢◌, ◌<◌, ◌≤◌, ◌+◌, ◌∙◌, inl, inr, ℕ, zero, suc, Bool, true, false, cond, Option, Some, None, IfSome, List, [], ◌∷◌, ◌++◌, length, min, arith, refl, sym, ap, subst, subst₂}
use Rattle.std.specs.Prelude.{◌==◌, IsSomeAnd, is_none, is_some, option_to_list, slice_get, slice_set}
use Rattle.std.specs.List.{slice_index_or}
use Rattle.std.specs.Option.{option_map, option_map_or}
use Rattle.std.proofs.lemmas.Bool.{cases_eq, true≢false}
use Rattle.std.proofs.lemmas.List.{append_assoc, append-nil, get_or-set_other, length-set}
use Rattle.std.proofs.lemmas.Option.{same_Some, none-some, slice_get_read}
use Rattle.words.specs.Harts.{names}
use Rattle.words.specs.declared.message.Message.{Message as Coded}
use Rattle.words.specs.declared.message.Message.TheVariants as coded
use Rattle.words.specs.declared.message.Kind.{Kind}
use Rattle.words.specs.declared.stamp.Stamp.{Stamp}
use Rattle.words.specs.declared.entry.Entry.{Entry}
use Rattle.words.specs.declared.entry.Step.TheVariants.{Deliver}
use Rattle.flat.specs.Bytes.{put_at}
use Rattle.flat.specs.State.{idle}
use Rattle.isolation.specs.Facts.{OneRequest}
use Rattle.isolation.proofs.Consequences.RequestLaws.{one_request}
use Rattle.isolation.proofs.Belongs.Belonging.{world, inv_of}
use Rattle.network.specs.declared.net.Flight.{Flight}
use Rattle.network.specs.Flights.{AreInOrder, IsAlone, IsNextNumber, flight_at, number_after}
use Rattle.network.proofs.OneOrder.{at_first, at_others, number_is}
use Rattle.protocol.specs.Messages.{Block, Granted, Message, Get, Grant, Forward, Done, shown as shown_message, block_of, receiver_of}
use Rattle.protocol.specs.Hart.{Hart, HartResult, Request as Waiting, overflow_of, quiet, stamp_of}
use Rattle.words.specs.Stamps.{earlier}
use Rattle.protocol.specs.HartMessages.{message_row, refuse_row, acknowledge_row}
use Rattle.protocol.specs.Lines.{refuses}
use Rattle.protocol.specs.Start.{first_hart}
use Rattle.protocol.specs.Requests.{answer_row, granted_so_far, end_row, granted_row, refused_row, have_answered, with_grant, with_ack, with_nack}
use Rattle.protocol.specs.Directory.{Busy, Served, unless_busy, forwards, done_of as done_by}
use Rattle.protocol.specs.Machine.{Machine}
use Rattle.directory.specs.declared.rules.Request.{Request}
use Rattle.directory.specs.declared.received.Given.{Given}
use Rattle.directory.specs.Blocks.{Blocks, Answers, KeepsUsed, answer_to, entry_at, memory_at, row_of}
use Rattle.hart.specs.declared.reply.ForwardAnswer.{ForwardAnswer}
use Rattle.hart.specs.declared.reply.ForwardAnswer.TheVariants as answer
use Rattle.hart.specs.declared.reply.Settled.{Settled}
use Rattle.hart.specs.declared.reply.Settled.TheVariants as request
use Rattle.hart.specs.Rows.{done_of, answer_of, refusal_of}
use Rattle.hart.specs.Shown.{shown_hart}
use Rattle.machine.specs.Mail.{Mail, SendsOn, in_flight, mail_of}
use Rattle.machine.specs.Making.{MakesStep}
use Rattle.machine.specs.Serving.{Hears, Settles, Replies, AnsweredBy, Answered, Ends, forward_of, forwards_to, Arrival, Arrives, ArriveAll, get_arrival, grant_arrival, forward_arrivals, answer_arrival, answer_arrivals, end_arrivals, end_of, arrivals_behind}
use Rattle.machine.specs.States.{Seat, State, shown, geometry, hart_at, IsSound}
use Rattle.machine.specs.Turns.{is_held, IsOldestFree}
use Rattle.machine.proofs.Changed.{changed_at}
use Rattle.machine.proofs.Places.{got_there}
use Rattle.machine.proofs.Deliveries.{arrives_at_hart}
use Rattle.machine.proofs.Served.{block_inside, serves, follows}
use Rattle.machine.proofs.Arriving.{arrive_both, seats_beside}

-- Mail

abbrev pub nothing : Mail
nothing number = None

abbrev pub alone : Flight → List Flight
alone f = f ∷ []

-- messages with one number after another: the first has this number, and the next behind the last that one
abbrev IsRow : ℕ → List Flight → ℕ → Type 0
IsRow first [] next = first ≡ next
IsRow first (f ∷ fs) next = (f.number ≡ first) × IsRow (suc first) fs next

row_long : (first : ℕ) (fs : List Flight) (next : ℕ) → IsRow first fs next → first ≤ next
row_long first [] next is = omega (arith, is)
row_long first (f ∷ fs) next (is, rest) = let long : suc first ≤ next = row_long (suc first) fs next rest in omega (arith, long)

row_both : (first : ℕ) (fs : List Flight) (mid : ℕ) (gs : List Flight) (next : ℕ) → IsRow first fs mid → IsRow mid gs next → IsRow first (fs ++ gs) next
row_both first [] mid gs next is later = subst (λ n. IsRow n gs next) (sym is) later
row_both first (f ∷ fs) mid gs next (is, rest) later = (is, row_both (suc first) fs mid gs next rest later)

row_more : (first : ℕ) (fs : List Flight) (next : ℕ) (f : Flight) → IsRow first fs next → f.number ≡ next → IsRow first (fs ++ f ∷ []) (suc next)
row_more first fs next f row is = row_both first fs next (f ∷ []) (suc next) row (is, refl)

-- what is in flight with a number has one of theirs
in_row : (first : ℕ) (fs : List Flight) (next : ℕ) → IsRow first fs next → (j : ℕ) (f : Flight) → flight_at fs j ≡ Some f → (first ≤ j) × (j < next)
in_row first [] next is j f at = absurd (none-some f at)
in_row first (g ∷ gs) next (is, rest) j f at = elim (cases_eq g.number j) [
  | inl e ↦ let long : suc first ≤ next = row_long (suc first) gs next rest in (omega (arith, e, is), omega (arith, e, is, long))
  | inr ne ↦ let more = in_row (suc first) gs next rest j f (sym (at_others g gs j ne) ∙ at) in (omega (arith, more.0), more.1)
]

outside : (first : ℕ) (fs : List Flight) (next : ℕ) → IsRow first fs next → (j : ℕ) → ((first ≤ j) → (j < next) → ⊥) → flight_at fs j ≡ None
outside first fs next row j out = by (flight_at fs j) refl
  where
    by : (o : Option Flight) → flight_at fs j ≡ o → o ≡ None
    by None at = refl
    by (Some f) at = let within = in_row first fs next row j f at in absurd (out within.0 within.1)

row_order : (first : ℕ) (fs : List Flight) (next : ℕ) → IsRow first fs next → AreInOrder fs
row_order first [] next is = tt
row_order first (f ∷ fs) next (is, rest) = (
  λ j g at.
      let within = in_row (suc first) fs next rest j g at in
      let has : g.number ≡ j = number_is fs j g at in
      omega (arith, is, has, within.0),
  row_order (suc first) fs next rest,
)

-- one is added behind them
found_last : (fs : List Flight) (f : Flight) (j : ℕ) → flight_at fs j ≡ None → f.number ≡ j → flight_at (fs ++ f ∷ []) j ≡ Some f
found_last [] f j none is = at_first f [] j is
found_last (g ∷ gs) f j none is = elim (cases_eq g.number j) [
  | inl e ↦ absurd (none-some g (sym none ∙ at_first g gs j e))
  | inr ne ↦ at_others g (gs ++ f ∷ []) j ne ∙ found_last gs f j (sym (at_others g gs j ne) ∙ none) is
]

found_before : (fs : List Flight) (f : Flight) (j : ℕ) → f.number ≢ j → flight_at (fs ++ f ∷ []) j ≡ flight_at fs j
found_before [] f j ne = at_others f [] j ne
found_before (g ∷ gs) f j ne = ap (λ o. cond (g.number == j) (Some g) o) (found_before gs f j ne)

added : (first : ℕ) (fs : List Flight) (next : ℕ) (f : Flight) → IsRow first fs next → f.number ≡ next → mail_of (fs ++ f ∷ []) ≡ put_at next (Some f) (mail_of fs)
added first fs next f row is = changed_at next (Some f) (mail_of fs) (mail_of (fs ++ f ∷ []))
    (found_last fs f next (outside first fs next row next (λ from to. omega (arith, to))) is)
    (λ j ne. found_before fs f j (λ e. ne (sym e ∙ is)))

-- the first is taken
taken_first : (f : Flight) (fs : List Flight) (next : ℕ) → IsRow (suc f.number) fs next → mail_of fs ≡ put_at f.number None (mail_of (f ∷ fs))
taken_first f fs next row = changed_at f.number None (mail_of (f ∷ fs)) (mail_of fs)
    (outside (suc f.number) fs next row f.number (λ from to. omega (arith, from)))
    (λ j ne. sym (at_others f fs j (λ e. ne (sym e))))

-- the next number is the next behind them
next_in : (first : ℕ) (fs : List Flight) (next : ℕ) → IsRow first fs next → next < 18446744073709551615 → IsNextNumber (mail_of fs) next next
next_in first fs next row range = record {
  below = omega (arith, range);
  free = outside first fs next row next (λ from to. omega (arith, to));
  greatest = λ other above below. absurd (omega (arith, above, below));
}

-- and a message that is sent gets it
send_behind : (first : ℕ) (fs : List Flight) (n : ℕ) (f : Flight) (m : Message) → IsRow first fs n → n < 18446744073709551615 → shown_message f.message ≡ m → f.number ≡ n
    → SendsOn (mail_of fs) n (m ∷ []) (mail_of (fs ++ f ∷ [])) (number_after n)
send_behind first fs n f m row range is number = (n, f, next_in first fs n row range, is, number, (added first fs n f row number, refl))

send_one : (f : Flight) (m : Message) (n : ℕ) → n < 18446744073709551615 → shown_message f.message ≡ m → f.number ≡ n → SendsOn nothing n (m ∷ []) (mail_of (alone f)) (number_after n)
send_one f m n range is number = send_behind n [] n f m refl range is number

-- the only message
alone_here : (flights : List Flight) (number : ℕ) (a : IsAlone flights number) → flight_at flights number ≡ Some a.0
alone_here flights number (f, same, is) = ap (λ fs. flight_at fs number) same ∙ at_first f [] number is

-- once it is taken, there is nothing
emptied : (flights : List Flight) (number : ℕ) → IsAlone flights number → put_at number None (mail_of flights) ≡ nothing
emptied flights number (f, same, is) = (λ k. put_at (sym is k) None (mail_of (same k))) ∙ sym (taken_first f [] (suc f.number) refl)

first_here : (f : Flight) (fs : List Flight) → in_flight (f ∷ fs) f.number ≡ Some (shown_message f.message)
first_here f fs = ap (λ o. option_map shown_message (option_map (λ (g : Flight). g.message) o)) (at_first f fs f.number refl)

-- The oldest

oldest_first : (w : Machine) (f : Flight) (fs : List Flight) (next : ℕ) → is_held w (shown_message f.message) ≡ false → IsRow (suc f.number) fs next → IsOldestFree w (f ∷ fs) f.number
oldest_first w f fs next free row = record {
  flight = f;
  here = at_first f fs f.number refl;
  free = free;
  first = λ other h at. inr (elim (cases_eq f.number other) [
    | inl e ↦ omega (arith, e)
    | inr ne ↦ let within = in_row (suc f.number) fs next row other h (sym (at_others f fs other ne) ∙ at) in omega (arith, within.0)
  ]);
}

oldest_alone : (w : Machine) (flights : List Flight) (number : ℕ) (a : IsAlone flights number) → is_held w (shown_message a.0.message) ≡ false → IsOldestFree w flights number
oldest_alone w flights number (f, same, is) free = subst₂ (λ fs n. IsOldestFree w fs n) (sym same) is (oldest_first w f [] (suc f.number) free refl)

-- A hart's request that has ended is out no longer

module _ (n i b : ℕ) (h : Hart) (m : Message) where
  over : (refused : Bool) (q : Waiting) (g : Granted) → (cond refused (refused_row i q h) (granted_row i q g h)).hart.request ≡ None
  over true q g = refl
  over false q g = refl

  answered_out : (all : Bool) (q : Waiting) (g : Granted) → (cond all (end_row i q g h) (quiet (record h { request = Some q }))).sent ≡ Some m → (cond all (end_row i q g h) (quiet (record h { request = Some q }))).hart.request ≡ None
  answered_out true q g is = over q.refused q g
  answered_out false q g is = absurd (none-some m is)

  granted_out : (g : Option Granted) (q : Waiting) → (granted_so_far n i q g h).sent ≡ Some m → (granted_so_far n i q g h).hart.request ≡ None
  granted_out None q is = absurd (none-some m is)
  granted_out (Some g) q is = answered_out (have_answered n g.expect q.answered) q g is

  own_out : (own : Bool) (q : Waiting) → (cond own (granted_so_far n i q q.grant h) (quiet h)).sent ≡ Some m → (cond own (granted_so_far n i q q.grant h) (quiet h)).hart.request ≡ None
  own_out true q is = granted_out q.grant q is
  own_out false q is = absurd (none-some m is)

  ended_out : (keep : Waiting → Waiting) (o : Option Waiting) → (answer_row n i b keep o h).sent ≡ Some m → (answer_row n i b keep o h).hart.request ≡ None
  ended_out keep None is = absurd (none-some m is)
  ended_out keep (Some r) is = own_out (r.block == b) (keep r) is

module _ (sets ways : ℕ) where
  -- messages arrive, one after another
  abbrev pub Goes : State → List Arrival → State → Type 0
  Goes v ds w = ArriveAll (geometry sets ways) v ds w × IsSound sets ways w

  go_on : (v u w : State) (ds bs : List Arrival) → Goes v ds u → Goes u bs w → Goes v (ds ++ bs) w
  go_on v u w ds bs first later = (arrive_both (geometry sets ways) v u w ds bs first.0 later.0, later.1)

  go_one : (v w : State) (a : Arrival) → Arrives (geometry sets ways) v a w → IsSound sets ways w → Goes v (a ∷ []) w
  go_one v w a arrives sound = ((w, arrives, refl), sound)

  -- A hart hears a message

  hart_behind : (i : ℕ) (m : Message) (old new : List Seat) (sent : ℕ → Option Message) (entry : ℕ → Option Entry) (h : Hears sets i m old new sent entry) → hart_at sets new i ≡ shown_hart sets h.is.output h.is.hart
  hart_behind i m old new sent entry h =
      ap (λ o. option_map_or (λ (s : Seat). shown_hart sets s.output s.hart) o (first_hart idle)) (ap (λ l. slice_get l i) h.after ∙ got_there old i h.is h.number)

  hears : (number i : ℕ) (v : State) (m : Message) (seats : List Seat) (flights : List Flight) (next : ℕ) (sent : ℕ → Option Message) (entry : ℕ → Option Entry)
      → IsSound sets ways v → Hears sets i m v.seats seats sent entry → in_flight v.flights number ≡ Some m → receiver_of m ≡ Some i
      → SendsOn (put_at number None (mail_of v.flights)) v.sent (option_to_list (sent i)) (mail_of flights) next → AreInOrder flights
      → MakesStep (geometry sets ways) v (Deliver number) (entry i) (record v { seats = seats; flights = flights; sent = next }) × IsSound sets ways (record v { seats = seats; flights = flights; sent = next })
  hears number i v m seats flights next sent entry sound h here goes sends order =
      arrives_at_hart sets ways number i v (record v { seats = seats; flights = flights; sent = next }) h.was h.is m sent entry sound
      (record { number = h.number; before = h.before; after = h.after; program = refl; directory = refl; stays = h.stays }) h.output refl here goes h.ways h.row sends order

  -- and it is its turn
  heard : (number i : ℕ) (v : State) (m : Message) (seats : List Seat) (flights : List Flight) (next : ℕ) (sent : ℕ → Option Message) (entry : ℕ → Option Entry)
      → IsSound sets ways v → Hears sets i m v.seats seats sent entry → in_flight v.flights number ≡ Some m → receiver_of m ≡ Some i
      → SendsOn (put_at number None (mail_of v.flights)) v.sent (option_to_list (sent i)) (mail_of flights) next → AreInOrder flights → IsOldestFree (shown sets v) v.flights number
      → Goes v (record { message = m; sent = option_to_list (sent i); entry = entry i } ∷ []) (record v { seats = seats; flights = flights; sent = next })
  heard number i v m seats flights next sent entry sound h here goes sends order oldest =
      let w : State = record v { seats = seats; flights = flights; sent = next } in
      let made = hears number i v m seats flights next sent entry sound h here goes sends order in
      go_one v w (record { message = m; sent = option_to_list (sent i); entry = entry i }) (record {
        number = number;
        here = here;
        turn = λ after. record { next = oldest; made = made.0 };
        sends = sends;
        others = λ j ne. seats_beside sets i j v.seats seats h.is h.after (λ e. ne (goes ∙ ap Some e));
        directory = λ is. refl;
      }) made.1

  -- and one that the directory hears
  told_there : (number : ℕ) (v w : State) (m : Message) (sent : List Message) → in_flight v.flights number ≡ Some m → receiver_of m ≡ None → w.seats ≡ v.seats
      → SendsOn (put_at number None (mail_of v.flights)) v.sent sent (mail_of w.flights) w.sent → IsOldestFree (shown sets v) v.flights number
      → MakesStep (geometry sets ways) v (Deliver number) None w → Arrives (geometry sets ways) v (record { message = m; sent = sent; entry = None }) w
  told_there number v w m sent here goes seats sends oldest made = record {
    number = number;
    here = here;
    turn = λ after. record { next = oldest; made = made };
    sends = sends;
    others = λ j ne. ap (λ l. hart_at sets l j) seats;
    directory = λ is. absurd (true≢false (sym is ∙ ap is_some goes));
  }

  -- The end

  abbrev pub ending : ℕ → ℕ → Settled → List Flight
  ending from n request.Waiting = []
  ending from n (request.Refused b) = alone (record { message = coded.Done from b false None; number = n })
  ending from n (request.Granted b content) = alone (record { message = coded.Done from b true content; number = n })

  abbrev pub number_by : ℕ → Settled → ℕ
  number_by n request.Waiting = n
  number_by n (request.Refused b) = number_after n
  number_by n (request.Granted b content) = number_after n

  sends_end : (from n : ℕ) (s : Settled) → n < 18446744073709551615 → SendsOn nothing n (option_to_list (done_of from s)) (mail_of (ending from n s)) (number_by n s)
  sends_end from n request.Waiting range = (refl, refl)
  sends_end from n (request.Refused b) range = send_one _ (Done from b false None) n range refl refl
  sends_end from n (request.Granted b content) range = send_one _ (Done from b true content) n range refl refl

  end_order : (from n : ℕ) (s : Settled) → AreInOrder (ending from n s)
  end_order from n request.Waiting = tt
  end_order from n (request.Refused b) = row_order n (ending from n (request.Refused b)) (suc n) (refl, refl)
  end_order from n (request.Granted b content) = row_order n (ending from n (request.Granted b content)) (suc n) (refl, refl)

  module _ (u : State) (from n : ℕ) (new : Blocks) where
    end_told : (b : ℕ) (ok : Bool) (content : Option Block) (number : ℕ) → let f : Flight = record { message = coded.Done from b ok content; number = n } in
        IsSound sets ways (record u { flights = alone f }) → Ends (Some (Done from b ok content)) u.directory new number
        → Goes (record u { flights = alone f }) (end_arrivals (Done from b ok content ∷ [])) (record u { directory = new; flights = [] })
    end_told b ok content number sound (is, used, (set, silent)) =
        let f : Flight = record { message = coded.Done from b ok content; number = n } in
        let v : State = record u { flights = alone f } in
        let w : State = record u { directory = new; flights = [] } in
        let here : in_flight (alone f) n ≡ Some (Done from b ok content) = first_here f [] in
        let none : SendsOn (put_at n None (mail_of (alone f))) u.sent [] (mail_of []) u.sent = (taken_first f [] (suc n) refl, refl) in
        let made = serves sets ways n v w (coded.Done from b ok content) (done_by (entry_at u.directory b).busy from ok content (entry_at u.directory b) (memory_at u.directory b)) sound here refl
        (record { program = refl; seats = refl; stamps = refl; row = refl; block = set; used = used; order = tt; sends = subst (λ ms. SendsOn (put_at n None (mail_of (alone f))) u.sent ms (mail_of []) u.sent) (sym silent) none }) in
        go_one v w (record { message = Done from b ok content; sent = []; entry = None }) (told_there n v w (Done from b ok content) [] here refl refl none (oldest_first (shown sets v) f [] (suc n) refl refl) made.0) made.1

    pub ends : (s : Settled) (number : ℕ) → IsSound sets ways (record u { flights = ending from n s }) → Ends (done_of from s) u.directory new number
        → Goes (record u { flights = ending from n s }) (end_arrivals (option_to_list (done_of from s))) (record u { directory = new; flights = [] })
    ends request.Waiting number sound (same, none) =
        let stays : record u { flights = [] } ≡ record u { directory = new; flights = [] } = λ k. record u { directory = sym same k; flights = [] } in
        (sym stays, subst (IsSound sets ways) stays sound)
    ends (request.Refused b) number sound told_so = end_told b false None number sound told_so
    ends (request.Granted b content) number sound told_so = end_told b true content number sound told_so

  -- A hart that awaits an answer waits

  one : (v : State) → IsSound sets ways v → OneRequest (shown sets v)
  one v sound =
      let i = inv_of (geometry sets ways) sound.flat (shown sets v) sound.belongs in
      one_request (world (shown sets v) sound.flat sound.belongs.entries i.0) i.1

  waits_forwarded : (number to b r : ℕ) (kind : Kind) (stamp : Option Stamp) (v : State) → IsSound sets ways v → in_flight v.flights number ≡ Some (Forward to b kind r stamp) → (hart_at sets v.seats r).request ≡ None → ⊥
  waits_forwarded number to b r kind stamp v sound here none = let waiting = ((one v sound).forward to b r kind stamp (number, here)).0 in none-some waiting.0 (sym none ∙ waiting.1)

  waits_answered : (number to b r : ℕ) (a : ForwardAnswer) (v : State) → IsSound sets ways v → in_flight v.flights number ≡ Some (answer_of to r b a) → (hart_at sets v.seats r).request ≡ None → ⊥
  waits_answered number to b r (answer.Ack content) v sound here none = let waiting = ((one v sound).ack to r b content (number, here)).0 in none-some waiting.0 (sym none ∙ waiting.1)
  waits_answered number to b r (answer.Nack stamp) v sound here none = let waiting = ((one v sound).nack to r b stamp (number, here)).0 in none-some waiting.0 (sym none ∙ waiting.1)

  -- what a hart that hears m does is what it does with an answer about a block
  record IsAnswer (m : Message) : Type 0 where
    pub block : ℕ
    pub keep : Hart → Waiting → Waiting
    pub row : (n i : ℕ) (h : Hart) → message_row n i m h ≡ answer_row n i block (keep h) h.request h

  -- it is behind its request then, if that has ended
  out_behind : (r b : ℕ) (ok : Bool) (content : Option Block) (m : Message) (old new : List Seat) (settled : Settled) → IsAnswer m → ((i : ℕ) → done_of i settled ≡ Some (Done i b ok content)) → Settles sets r m old new settled
      → (hart_at sets new r).request ≡ None
  out_behind r b ok content m old new settled is ended h =
      let was : Hart = shown_hart sets h.is.output h.was.hart in
      let row = sym (is.row h.was.hart.harts h.was.hart.index was) ∙ h.row h.is.output in
      let out = ended_out h.was.hart.harts h.was.hart.index is.block was (Done h.is.hart.index b ok content) (is.keep was) was.request (ap (λ (t : HartResult). t.sent) row ∙ ended h.is.hart.index) in
      ap (λ (x : Hart). x.request) (hart_behind r m old new (λ i. done_of i settled) (λ i. None) h) ∙ sym (ap (λ (t : HartResult). t.hart.request) row) ∙ out

  -- a machine with these seats and messages, of which so many were sent
  abbrev pub at : State → List Seat → List Flight → ℕ → State
  at u seats flights sent = record u { seats = seats; flights = flights; sent = sent }

  -- an answer arrives that isn't the last
  module _ (fs : List Flight) (f : Flight) (m : Message) (n r : ℕ) (u : State) (old new : List Seat) where
    module _ (sound : IsSound sets ways (at u old (f ∷ fs) n)) (row : IsRow (suc f.number) fs n) (range : n < 18446744073709551615) (told : shown_message f.message ≡ m) (goes : receiver_of m ≡ Some r) (is : IsAnswer m)
        (awaits : (g : Flight) (k : ℕ) → IsSound sets ways (at u new (fs ++ g ∷ []) k) → (hart_at sets new r).request ≡ None → ⊥) where
      here : in_flight (f ∷ fs) f.number ≡ Some m
      here = first_here f fs ∙ ap Some told

      ends_not : (b : ℕ) (ok : Bool) (content : Option Block) (settled : Settled) → ((i : ℕ) → done_of i settled ≡ Some (Done i b ok content)) → Settles sets r m old new settled → ⊥
      ends_not b ok content settled ended h =
          let g : Flight = record { message = coded.Done r b ok content; number = n } in
          let sends : SendsOn (put_at f.number None (mail_of (f ∷ fs))) n (option_to_list (done_of r settled)) (mail_of (fs ++ g ∷ [])) (number_after n) =
          subst₂ (λ mail o. SendsOn mail n (option_to_list o) (mail_of (fs ++ g ∷ [])) (number_after n)) (taken_first f fs n row) (sym (ended r))
          (send_behind (suc f.number) fs n g (Done r b ok content) row range refl refl) in
          let order : AreInOrder (fs ++ g ∷ []) = row_order (suc f.number) (fs ++ g ∷ []) (suc n) (row_more (suc f.number) fs n g row refl) in
          let made = hears f.number r (at u old (f ∷ fs) n) m new (fs ++ g ∷ []) (number_after n) (λ i. done_of i settled) (λ i. None) sound h here goes sends order in
          awaits g (number_after n) made.1 (out_behind r b ok content m old new settled is ended h)

      waits_on : (settled : Settled) → Settles sets r m old new settled → IsOldestFree (shown sets (at u old (f ∷ fs) n)) (f ∷ fs) f.number
          → Goes (at u old (f ∷ fs) n) (record { message = m; sent = []; entry = None } ∷ []) (at u new fs n)
      waits_on request.Waiting h oldest =
          heard f.number r (at u old (f ∷ fs) n) m new fs n (λ i. done_of i request.Waiting) (λ i. None) sound h here goes (taken_first f fs n row, refl) (row_order (suc f.number) fs n row) oldest
      waits_on (request.Refused b) h oldest = absurd (ends_not b false None (request.Refused b) (λ i. refl) h)
      waits_on (request.Granted b content) h oldest = absurd (ends_not b true content (request.Granted b content) (λ i. refl) h)

  -- Answers

  abbrev answer_message : ℕ → ℕ → ℕ → ForwardAnswer → Coded
  answer_message i r b (answer.Nack stamp) = coded.Nack i r b stamp
  answer_message i r b (answer.Ack content) = coded.Ack i r b content

  answer_told : (i r b : ℕ) (a : ForwardAnswer) → shown_message (answer_message i r b a) ≡ answer_of i r b a
  answer_told i r b (answer.Nack stamp) = refl
  answer_told i r b (answer.Ack content) = refl

  answer_goes : (i r b : ℕ) (a : ForwardAnswer) → receiver_of (answer_of i r b a) ≡ Some r
  answer_goes i r b (answer.Nack stamp) = refl
  answer_goes i r b (answer.Ack content) = refl

  answer_free : (w : Machine) (i r b : ℕ) (a : ForwardAnswer) → is_held w (shown_message (answer_message i r b a)) ≡ false
  answer_free w i r b (answer.Nack stamp) = refl
  answer_free w i r b (answer.Ack content) = refl

  answer_is : (i r b : ℕ) (a : ForwardAnswer) → IsAnswer (answer_of i r b a)
  answer_is i r b (answer.Nack stamp) = record { block = b; keep = λ h. with_nack i (earlier stamp (stamp_of h.tx)); row = λ n j h. refl }
  answer_is i r b (answer.Ack content) = record { block = b; keep = λ h. with_ack i content; row = λ n j h. refl }

  grant_is : (r b : ℕ) (g : Granted) → IsAnswer (Grant r b g)
  grant_is r b g = record { block = b; keep = λ h. with_grant g; row = λ n j h. refl }

  -- What two harts hear, one after the other, they may hear the other way round

  set_both : (xs : List Seat) (i j : ℕ) (x y : Seat) → i ≢ j → slice_set (slice_set xs i x) j y ≡ slice_set (slice_set xs j y) i x
  set_both [] i j x y ne = refl
  set_both (z ∷ zs) zero zero x y ne = absurd (ne refl)
  set_both (z ∷ zs) zero (suc j) x y ne = refl
  set_both (z ∷ zs) (suc i) zero x y ne = refl
  set_both (z ∷ zs) (suc i) (suc j) x y ne = ap (λ l. z ∷ l) (set_both zs i j x y (λ e. ne (ap suc e)))

  swap : (i j : ℕ) (m o : Message) (old mid new : List Seat) (sent told : ℕ → Option Message) (entry shows : ℕ → Option Entry) → i ≢ j
      → Hears sets i m old mid sent entry → Hears sets j o mid new told shows → (u : List Seat) × Hears sets j o old u told shows × Hears sets i m u new sent entry
  swap i j m o old mid new sent told entry shows ne h k =
      let back : j ≢ i = λ e. ne (sym e) in (
        slice_set old j k.is,
        record {
          was = k.was;
          is = k.is;
          number = let long = length-set old i h.is in let lt = subst (λ (l : List Seat). j < length l) h.after k.number in omega (arith, long, lt);
          before = subst (λ (l : List Seat). k.was ≡ slice_index_or l j k.was) h.after k.before ∙ get_or-set_other old i j h.is k.was back;
          after = refl;
          output = k.output;
          row = k.row;
          ways = k.ways;
          stays = k.stays;
        },
        record {
          was = h.was;
          is = h.is;
          number = let long = length-set old j k.is in omega (arith, long, h.number);
          before = h.before ∙ sym (get_or-set_other old j i k.is h.was ne);
          after = k.after ∙ ap (λ (l : List Seat). slice_set l j k.is) h.after ∙ set_both old i j h.is k.is ne;
          output = h.output;
          row = h.row;
          ways = h.ways;
          stays = h.stays;
        },
      )

  module _ (q : Request) where
    -- harts that are asked, with their answers
    abbrev Asks : Type 0
    Asks = List (ℕ × ForwardAnswer)

    -- all are asked; and then each answer arrives
    abbrev pub AllAsked : List (ℕ × ForwardAnswer) → List Seat → List Seat → Type 0
    AllAsked [] old new = new ≡ old
    AllAsked (x ∷ xs) old new = (mid : List Seat) × Replies sets q x.0 old mid x.1 × AllAsked xs mid new

    abbrev pub AllTold : List (ℕ × ForwardAnswer) → List Seat → Settled → List Seat → Settled → Type 0
    AllTold [] old before new settled = (new ≡ old) × (settled ≡ before)
    AllTold (x ∷ xs) old before new settled = (mid : List Seat) × (next : Settled) × Settles sets q.requester (answer_of x.0 q.requester q.block x.1) old mid next × AllTold xs mid next new settled

    past : (xs : List (ℕ × ForwardAnswer)) (m : Message) (old mid new : List Seat) (next : Settled) → Settles sets q.requester m old mid next → AllAsked xs mid new → (u : List Seat) × AllAsked xs old u × Settles sets q.requester m u new next
    past [] m old mid new next s same = (old, refl, subst (λ (l : List Seat). Settles sets q.requester m old l next) (sym same) s)
    past (x ∷ xs) m old mid new next s (heard, (ne, h), rest) =
        let both = swap q.requester x.0 m (forward_of q x.0) old mid heard (λ n. done_of n next) (λ n. Some (answer_of n q.requester q.block x.1)) (λ n. None) (λ n. refusal_of n q.requester q.block x.1) (λ e. ne (sym e)) s h in
        let on = past xs m both.0 heard new next both.2 rest in (on.0, (both.0, (ne, both.1), on.1), on.2)

    pub reorder : (xs : List (ℕ × ForwardAnswer)) (old : List Seat) (before : Settled) (new : List Seat) (settled : Settled) → AnsweredBy sets q xs old before new settled
        → (mid : List Seat) × AllAsked xs old mid × AllTold xs mid before new settled
    reorder [] old before new settled (same, is) = (old, refl, (same, is))
    reorder (x ∷ xs) old before new settled (asked, heard, next, h, s, rest) =
        let on = reorder xs heard next new settled rest in
        let moved = past xs (answer_of x.0 q.requester q.block x.1) asked heard on.0 next s on.1 in
        (moved.0, (asked, h, moved.1), (on.0, next, moved.2, on.2))

    -- one more has answered
    pub told_more : (xs : List (ℕ × ForwardAnswer)) (to : ℕ) (old : List Seat) (before : Settled) (mid : List Seat) (settled : Settled) (asked new : List Seat) (next : Settled) (reply : ForwardAnswer) → AnsweredBy sets q xs old before mid settled
        → Replies sets q to mid asked reply → Settles sets q.requester (answer_of to q.requester q.block reply) asked new next → AnsweredBy sets q (xs ++ (to, reply) ∷ []) old before new next
    told_more [] to old before mid settled asked new next reply (same, is) h s = (asked, new, next, subst (λ (l : List Seat). Replies sets q to l asked reply) same h, s, (refl, refl))
    told_more (x ∷ xs) to old before mid settled asked new next reply (first_asked, heard, on, k, o, rest) h s =
        (first_asked, heard, on, k, o, told_more xs to heard on mid settled asked new next reply rest h s)

    -- a hart that hears a forward awaits what it awaited, and none but the requester hears the answers
    waits_so : (b : Bool) (i : ℕ) (h : Hart) → (cond b (refuse_row i q.block q.requester q.stamp h) (acknowledge_row i q.block q.kind q.requester h)).hart.request ≡ h.request
    waits_so true i h = refl
    waits_so false i h = refl

    replied : (to : ℕ) (a : ForwardAnswer) (old asked : List Seat) → Replies sets q to old asked a → (i : ℕ) → (hart_at sets asked i).request ≡ (hart_at sets old i).request
    replied to a old asked (apart, h) i = elim (cases_eq i to) [
      | inl e ↦
          let was : Hart = shown_hart sets h.is.output h.was.hart in
          let before : hart_at sets old to ≡ shown_hart sets h.was.output h.was.hart =
          ap (λ o. option_map_or (λ (s : Seat). shown_hart sets s.output s.hart) o (first_hart idle)) (slice_get_read old (length old) to h.was refl h.number h.before) in
          let behind : hart_at sets asked to ≡ shown_hart sets h.is.output h.is.hart =
          hart_behind to (forward_of q to) old asked (λ n. Some (answer_of n q.requester q.block a)) (λ n. refusal_of n q.requester q.block a) h in
          let there : (hart_at sets asked to).request ≡ (hart_at sets old to).request =
          ap (λ (t : Hart). t.request) behind ∙ sym (ap (λ (t : HartResult). t.hart.request) (h.row h.is.output))
          ∙ waits_so (refuses (was.lines q.block) (overflow_of was.tx) q.kind) h.was.hart.index was ∙ sym (ap (λ (t : Hart). t.request) before) in
          subst (λ j. (hart_at sets asked j).request ≡ (hart_at sets old j).request) (sym e) there
      | inr ne ↦ ap (λ (t : Hart). t.request) (seats_beside sets to i old asked h.is h.after (λ e. ne (sym e)))
    ]

    still_wait : (xs : List (ℕ × ForwardAnswer)) (old : List Seat) (before : Settled) (new : List Seat) (settled : Settled) → AnsweredBy sets q xs old before new settled
        → (i : ℕ) → i ≢ q.requester → (hart_at sets new i).request ≡ (hart_at sets old i).request
    still_wait [] old before new settled (same, is) i ne = ap (λ l. (hart_at sets l i).request) same
    still_wait (x ∷ xs) old before new settled (asked, heard, next, h, s, rest) i ne =
        still_wait xs heard next new settled rest i ne
        ∙ ap (λ (t : Hart). t.request) (seats_beside sets q.requester i asked heard s.is s.after (λ e. ne (sym e)))
        ∙ replied x.0 x.1 old asked h i

    pub all_wait : (granted : Granted) (xs : List (ℕ × ForwardAnswer)) (old new : List Seat) (settled : Settled) → Answered sets q granted xs old new settled
        → (i : ℕ) → i ≢ q.requester → (hart_at sets new i).request ≡ (hart_at sets old i).request
    all_wait granted xs old new settled (first, waiting, s, rest) i ne =
        still_wait xs waiting first new settled rest i ne ∙ ap (λ (t : Hart). t.request) (seats_beside sets q.requester i old waiting s.is s.after (λ e. ne (sym e)))

    -- their forwards, and their answers, numbered one after another

    abbrev forward_flight : ℕ → ℕ → Flight
    forward_flight to n = record { message = coded.Forward to q.block q.kind q.requester q.stamp; number = n }

    abbrev answer_flight : ℕ × ForwardAnswer → ℕ → Flight
    answer_flight x n = record { message = answer_message x.0 q.requester q.block x.1; number = n }

    abbrev pub forwards_from : ℕ → List (ℕ × ForwardAnswer) → List Flight
    forwards_from n [] = []
    forwards_from n (x ∷ xs) = forward_flight x.0 n ∷ forwards_from (suc n) xs

    abbrev pub answers_from : ℕ → List (ℕ × ForwardAnswer) → List Flight
    answers_from n [] = []
    answers_from n (x ∷ xs) = answer_flight x n ∷ answers_from (suc n) xs

    forwards_row : (n : ℕ) (xs : List (ℕ × ForwardAnswer)) (next : ℕ) → n + length xs ≡ next → IsRow n (forwards_from n xs) next
    forwards_row n [] next is = omega (arith, is)
    forwards_row n (x ∷ xs) next is = (refl, forwards_row (suc n) xs next (omega (arith, is)))

    answers_row : (n : ℕ) (xs : List (ℕ × ForwardAnswer)) (next : ℕ) → n + length xs ≡ next → IsRow n (answers_from n xs) next
    answers_row n [] next is = omega (arith, is)
    answers_row n (x ∷ xs) next is = (refl, answers_row (suc n) xs next (omega (arith, is)))

    -- forwards are sent behind what is sent
    sends_forwards : (xs : List (ℕ × ForwardAnswer)) (first : ℕ) (before : List Flight) (n : ℕ) → IsRow first before n → n + length xs ≤ 18446744073709551615
        → SendsOn (mail_of before) n (forwards_to q xs) (mail_of (before ++ forwards_from n xs)) (n + length xs)
    sends_forwards [] first before n row range = (ap mail_of (append-nil before), omega arith)
    sends_forwards (x ∷ xs) first before n row range =
        let f : Flight = forward_flight x.0 n in
        let more = sends_forwards xs first (before ++ f ∷ []) (suc n) (row_more first before n f row refl) (omega (arith, range)) in
        let next : suc n ≡ number_after n = omega (arith, range) in
        let whole : (before ++ f ∷ []) ++ forwards_from (suc n) xs ≡ before ++ f ∷ forwards_from (suc n) xs = append_assoc before (f ∷ []) (forwards_from (suc n) xs) in
        let count : suc n + length xs ≡ n + suc (length xs) = omega arith in (
          n,
          f,
          next_in first before n row (omega (arith, range)),
          refl,
          refl,
          subst₂ (λ mail k. SendsOn mail k (forwards_to q xs) (mail_of (before ++ forwards_from n (x ∷ xs))) (n + suc (length xs))) (added first before n f row refl) next
              (subst₂ (λ flights k. SendsOn (mail_of (before ++ f ∷ [])) (suc n) (forwards_to q xs) (mail_of flights) k) whole count more),
        )

    -- one forward after another arrives, and is answered
    forward_phase : (xs : List (ℕ × ForwardAnswer)) (m k : ℕ) (done : List Flight) (n : ℕ) (u : State) (old new : List Seat) → m + length xs ≡ k → IsRow k done n → n + length xs ≤ 18446744073709551615
        → IsSound sets ways (at u old (forwards_from m xs ++ done) n) → AllAsked xs old new
        → Goes (at u old (forwards_from m xs ++ done) n) (forward_arrivals q xs) (at u new (done ++ answers_from n xs) (n + length xs))
    forward_phase [] m k done n u old new long row range sound same =
        let is : at u old done n ≡ at u new (done ++ []) (n + 0) = λ i. at u (sym same i) (sym (append-nil done) i) (let zero : n ≡ n + 0 = omega arith in zero i) in
        subst (λ (w : State). Goes (at u old done n) [] w) is (refl, sound)
    forward_phase (x ∷ xs) m k done n u old new long row range sound (mid, (ne, h), rest) =
        let f : Flight = forward_flight x.0 m in
        let a : Flight = answer_flight x n in
        let ys : List Flight = forwards_from (suc m) xs in
        let arrived : Arrival = record { message = forward_of q x.0; sent = answer_of x.0 q.requester q.block x.1 ∷ []; entry = refusal_of x.0 q.requester q.block x.1 } in
        let v : State = at u old (f ∷ (ys ++ done)) n in
        let L : List Flight = ys ++ (done ++ a ∷ []) in
        let on_long : suc m + length xs ≡ k = omega (arith, long) in
        let forwards_are : IsRow (suc m) ys k = forwards_row (suc m) xs k on_long in
        let behind_it : IsRow (suc m) (ys ++ done) n = row_both (suc m) ys k done n forwards_are row in
        let answers_are : IsRow k (done ++ a ∷ []) (suc n) = row_more k done n a row refl in
        let low : n < 18446744073709551615 = omega (arith, range) in
        let sends : SendsOn (put_at m None (mail_of (f ∷ (ys ++ done)))) n (answer_of x.0 q.requester q.block x.1 ∷ []) (mail_of L) (number_after n) =
        subst₂ (λ mail flights. SendsOn mail n (answer_of x.0 q.requester q.block x.1 ∷ []) (mail_of flights) (number_after n)) (taken_first f (ys ++ done) n behind_it) (append_assoc ys done (a ∷ []))
        (send_behind (suc m) (ys ++ done) n a (answer_of x.0 q.requester q.block x.1) behind_it low (answer_told x.0 q.requester q.block x.1) refl) in
        let next : number_after n ≡ suc n = omega (arith, range) in
        let first : Goes v (arrived ∷ []) (at u mid L (suc n)) = subst (λ i. Goes v (arrived ∷ []) (at u mid L i)) next
        (heard m x.0 v (forward_of q x.0) mid L (number_after n) (λ i. Some (answer_of i q.requester q.block x.1)) (λ i. refusal_of i q.requester q.block x.1) sound h
        (first_here f (ys ++ done)) refl sends (row_order (suc m) L (suc n) (row_both (suc m) ys k (done ++ a ∷ []) (suc n) forwards_are answers_are))
        (oldest_first (shown sets v) f (ys ++ done) n refl behind_it)) in
        let on = forward_phase xs (suc m) k (done ++ a ∷ []) (suc n) u mid new on_long answers_are (omega (arith, range)) first.1 rest in
        let last : at u new ((done ++ a ∷ []) ++ answers_from (suc n) xs) (suc n + length xs) ≡ at u new (done ++ answers_from n (x ∷ xs)) (n + suc (length xs)) =
        λ i. at u new (append_assoc done (a ∷ []) (answers_from (suc n) xs) i) (let count : suc n + length xs ≡ n + suc (length xs) = omega arith in count i) in
        subst (λ (w : State). Goes v (forward_arrivals q (x ∷ xs)) w) last
        (go_on v (at u mid L (suc n)) (at u new ((done ++ a ∷ []) ++ answers_from (suc n) xs) (suc n + length xs)) (arrived ∷ []) (forward_arrivals q xs) first on)

    -- one answer after another arrives
    answer_phase : (x : ℕ × ForwardAnswer) (xs : List (ℕ × ForwardAnswer)) (m n : ℕ) (u : State) (old : List Seat) (before : Settled) (new : List Seat) (settled : Settled)
        → m + suc (length xs) ≡ n → n < 18446744073709551615 → IsSound sets ways (at u old (answers_from m (x ∷ xs)) n) → AllTold (x ∷ xs) old before new settled
        → Goes (at u old (answers_from m (x ∷ xs)) n) (answer_arrivals q (x ∷ xs) settled) (at u new (ending q.requester n settled) (number_by n settled))
    answer_phase x [] m n u old before new settled long range sound (mid, next, s, (same, is)) =
        let a : Flight = answer_flight x m in
        let v : State = at u old (a ∷ []) n in
        let told : Message = answer_of x.0 q.requester q.block x.1 in
        let h : Settles sets q.requester told old new settled = subst₂ (λ (l : List Seat) (t : Settled). Settles sets q.requester told old l t) (sym same) (sym is) s in
        heard m q.requester v told new (ending q.requester n settled) (number_by n settled) (λ i. done_of i settled) (λ i. None) sound h
        (first_here a [] ∙ ap Some (answer_told x.0 q.requester q.block x.1)) (answer_goes x.0 q.requester q.block x.1)
        (subst (λ mail. SendsOn mail n (option_to_list (done_of q.requester settled)) (mail_of (ending q.requester n settled)) (number_by n settled)) (taken_first a [] (suc m) refl) (sends_end q.requester n settled range))
        (end_order q.requester n settled) (oldest_first (shown sets v) a [] (suc m) (answer_free (shown sets v) x.0 q.requester q.block x.1) refl)
    answer_phase x (y ∷ ys) m n u old before new settled long range sound (mid, next, s, rest) =
        let a : Flight = answer_flight x m in
        let c : Flight = answer_flight y (suc m) in
        let zs : List Flight = answers_from (suc m) (y ∷ ys) in
        let v : State = at u old (a ∷ zs) n in
        let told : Message = answer_of x.0 q.requester q.block x.1 in
        let on_long : suc m + suc (length ys) ≡ n = omega (arith, long) in
        let row : IsRow (suc m) zs n = answers_row (suc m) (y ∷ ys) n on_long in
        let awaits : (g : Flight) (k : ℕ) → IsSound sets ways (at u mid (zs ++ g ∷ []) k) → (hart_at sets mid q.requester).request ≡ None → ⊥ =
        λ g k also. waits_answered (suc m) y.0 q.block q.requester y.1 (at u mid (zs ++ g ∷ []) k) also
        (first_here c (answers_from (suc (suc m)) ys ++ g ∷ []) ∙ ap Some (answer_told y.0 q.requester q.block y.1)) in
        let step : Goes v (answer_arrival q x [] ∷ []) (at u mid zs n) =
        waits_on zs a told n q.requester u old mid sound row range (answer_told x.0 q.requester q.block x.1) (answer_goes x.0 q.requester q.block x.1) (answer_is x.0 q.requester q.block x.1) awaits next s
        (oldest_first (shown sets v) a zs n (answer_free (shown sets v) x.0 q.requester q.block x.1) row) in
        let on = answer_phase y ys (suc m) n u mid next new settled on_long range step.1 rest in
        go_on v (at u mid zs n) (at u new (ending q.requester n settled) (number_by n settled)) (answer_arrival q x [] ∷ []) (answer_arrivals q (y ∷ ys) settled) step on

    -- A request

    not_busy : (o : Option Busy) (s t : Served) (P : Served → Type 0) → IsSomeAnd (unless_busy o s) P → is_none (unless_busy o t) ≡ false
    not_busy None s t P is = refl
    not_busy (Some busy) s t P is = absurd is

    -- what the directory has given to a request that alone was in flight
    pub record IsServing (number : ℕ) (v : State) (given : Given) (d : Blocks) : Type 0 where
      pub sound : IsSound sets ways v
      pub only : IsAlone v.flights number
      pub range : v.sent ≤ 18446744073709551583
      pub here : in_flight v.flights number ≡ Some (Get q.requester q.block q.kind q.stamp)
      pub answers : Answers (Some (answer_to v.directory q given)) (row_of v.directory (Get q.requester q.block q.kind q.stamp)) q.block v.directory d
      pub used : KeepsUsed d

    -- what is read of the machine is what it was
    pub is_answered : (d new : Blocks) (given : Given) (o : Option Given) → o ≡ Some given → Answers (option_map (answer_to d q) o) (row_of d (Get q.requester q.block q.kind q.stamp)) q.block d new
        → Answers (Some (answer_to d q given)) (row_of d (Get q.requester q.block q.kind q.stamp)) q.block d new
    is_answered d new given o is = subst (λ r. Answers (option_map (answer_to d q) r) (row_of d (Get q.requester q.block q.kind q.stamp)) q.block d new) is

    pub is_forwarded : (n read expect : ℕ) (xs : List (ℕ × ForwardAnswer)) → read ≡ n → forwards read (names expect) q.block q.kind q.requester q.stamp ≡ forwards_to q xs
        → forwards n (names expect) q.block q.kind q.requester q.stamp ≡ forwards_to q xs
    is_forwarded n read expect xs same = subst (λ k. forwards k (names expect) q.block q.kind q.requester q.stamp ≡ forwards_to q xs) same

    pub is_asked : (d : Blocks) (given : Given) (read : Block) (xs : List (ℕ × ForwardAnswer)) (lent old new : List Seat) (settled : Settled) → read ≡ memory_at d q.block → lent ≡ old
        → Answered sets q (record { give = given.give; content = read; expect = names given.expect }) xs lent new settled
        → Answered sets q (record { give = given.give; content = memory_at d q.block; expect = names given.expect }) xs old new settled
    is_asked d given read xs lent old new settled words seats =
        subst₂ (λ (content : Block) (before : List Seat). Answered sets q (record { give = given.give; content = content; expect = names given.expect }) xs before new settled) words seats

    module _ (number : ℕ) (v : State) (given : Given) (d : Blocks) (s : IsServing number v given d) where
      abbrev pub granted : Granted
      granted = record { give = given.give; content = memory_at v.directory q.block; expect = names given.expect }

      abbrev pub told : Message
      told = Grant q.requester q.block granted

      abbrev pub forwarded : List Message
      forwarded = forwards v.directory.harts (names given.expect) q.block q.kind q.requester q.stamp

      abbrev pub grant_flight : Flight
      grant_flight = record { message = coded.Grant q.requester q.block given.give (memory_at v.directory q.block) given.expect; number = v.sent }

      -- it isn't held
      free : is_held (shown sets v) (shown_message s.only.0.message) ≡ false
      free =
          let same : shown_message s.only.0.message ≡ Get q.requester q.block q.kind q.stamp = same_Some (shown_message s.only.0.message) (Get q.requester q.block q.kind q.stamp)
          (sym (ap (λ o. option_map shown_message (option_map (λ (f : Flight). f.message) o)) (alone_here v.flights number s.only)) ∙ s.here) in
          subst (λ m. is_held (shown sets v) m ≡ false) (sym same) (not_busy (entry_at v.directory q.block).busy _ _ _ s.answers)

      -- it arrives
      abbrev pub behind_get : List Flight → ℕ → State
      behind_get flights next = record v { directory = d; flights = flights; sent = next }

      get_goes : (xs : List (ℕ × ForwardAnswer)) (flights : List Flight) (next : ℕ) → forwarded ≡ forwards_to q xs → SendsOn nothing v.sent (told ∷ forwards_to q xs) (mail_of flights) next → AreInOrder flights
          → Arrives (geometry sets ways) v (get_arrival q granted xs) (behind_get flights next) × IsSound sets ways (behind_get flights next)
      get_goes xs flights next are sends order =
          let w : State = behind_get flights next in
          let taken : SendsOn (put_at number None (mail_of v.flights)) v.sent (told ∷ forwards_to q xs) (mail_of flights) next =
          subst (λ mail. SendsOn mail v.sent (told ∷ forwards_to q xs) (mail_of flights) next) (sym (emptied v.flights number s.only)) sends in
          let made = follows sets ways number v w (coded.Get q.requester q.block q.kind q.stamp) (answer_to v.directory q given) s.sound s.here refl s.answers s.used refl refl refl
          (subst (λ ms. SendsOn (put_at number None (mail_of v.flights)) v.sent (told ∷ ms) (mail_of flights) next) (sym are) taken) order in
          (told_there number v w (Get q.requester q.block q.kind q.stamp) (told ∷ forwards_to q xs) s.here refl refl taken (oldest_alone (shown sets v) v.flights number s.only free) made.0, made.1)

      -- and then others do: until it is known how it ends, these
      abbrev pub Begins : List (ℕ × ForwardAnswer) → List Arrival → State → Type 0
      Begins xs ds w = (u : State) × Arrives (geometry sets ways) v (get_arrival q granted xs) u × (u.directory ≡ d) × Goes u ds w

      abbrev pub so_far : List (ℕ × ForwardAnswer) → Settled → List Arrival
      so_far xs settled = grant_arrival q granted xs settled ∷ (forward_arrivals q xs ++ answer_arrivals q xs settled)

      -- so many messages were sent until it is known how it ends, where so many harts are asked
      abbrev pub so_many : ℕ → ℕ
      so_many k = v.sent + 1 + (k + k)

      abbrev pub behind : ℕ → List Seat → Settled → State
      behind k seats settled = record v { seats = seats; directory = d; flights = ending q.requester (so_many k) settled; sent = number_by (so_many k) settled }

      module _ (seats : List Seat) (settled : Settled) where
        -- nobody is asked
        none_asked : (first : Settled) (waiting : List Seat) → forwarded ≡ [] → Settles sets q.requester told v.seats waiting first → seats ≡ waiting → settled ≡ first → Begins [] (so_far [] settled) (behind 0 seats settled)
        none_asked first waiting none grants same is =
            let n : ℕ = number_after v.sent in
            let many : n ≡ so_many 0 = omega (arith, s.range) in
            let range : n < 18446744073709551615 = omega (arith, s.range) in
            let F : List Flight = alone grant_flight in
            let u : State = behind_get F n in
            let w : State = at u seats (ending q.requester n settled) (number_by n settled) in
            let get = get_goes [] F n none (send_one grant_flight told v.sent (omega (arith, s.range)) refl refl) (row_order v.sent F (suc v.sent) (refl, refl)) in
            let h : Settles sets q.requester told v.seats seats settled = subst₂ (λ (l : List Seat) (t : Settled). Settles sets q.requester told v.seats l t) (sym same) (sym is) grants in
            let grant : Goes u (grant_arrival q granted [] settled ∷ []) w = heard v.sent q.requester u told seats w.flights w.sent (λ i. done_of i settled) (λ i. None) get.1 h (first_here grant_flight []) refl
            (subst (λ mail. SendsOn mail n (option_to_list (done_of q.requester settled)) (mail_of w.flights) w.sent) (taken_first grant_flight [] (suc v.sent) refl) (sends_end q.requester n settled range))
            (end_order q.requester n settled) (oldest_first (shown sets u) grant_flight [] (suc v.sent) refl refl) in
            subst (λ k. Begins [] (so_far [] settled) (at u seats (ending q.requester k settled) (number_by k settled))) many (u, get.0, refl, grant)

        -- some are
        some_asked : (x : ℕ × ForwardAnswer) (xs : List (ℕ × ForwardAnswer)) (first : Settled) (waiting mid : List Seat) → suc (length xs) ≤ 8 → forwarded ≡ forwards_to q (x ∷ xs)
            → Settles sets q.requester told v.seats waiting first → AllAsked (x ∷ xs) waiting mid → AllTold (x ∷ xs) mid first seats settled
            → Begins (x ∷ xs) (so_far (x ∷ xs) settled) (behind (suc (length xs)) seats settled)
        some_asked x xs first waiting mid few are grants asks tells =
            let k : ℕ = suc (length xs) in
            let n : ℕ = v.sent + 1 + k in
            let fs : List Flight = forwards_from (suc v.sent) (x ∷ xs) in
            let G : List Flight = grant_flight ∷ fs in
            let next : suc v.sent ≡ number_after v.sent = omega (arith, s.range) in
            let count : suc v.sent + k ≡ n = omega arith in
            let row : IsRow (suc v.sent) fs n = forwards_row (suc v.sent) (x ∷ xs) n count in
            let low : v.sent < 18446744073709551615 = omega (arith, s.range) in
            let sends : SendsOn nothing v.sent (told ∷ forwards_to q (x ∷ xs)) (mail_of G) n = (
              v.sent,
              grant_flight,
              next_in v.sent [] v.sent refl low,
              refl,
              refl,
              subst₂ (λ mail l. SendsOn mail l (forwards_to q (x ∷ xs)) (mail_of G) n) (added v.sent [] v.sent grant_flight refl refl) next
                  (subst (λ l. SendsOn (mail_of (alone grant_flight)) (suc v.sent) (forwards_to q (x ∷ xs)) (mail_of G) l) count
                  (sends_forwards (x ∷ xs) v.sent (alone grant_flight) (suc v.sent) (refl, refl) (omega (arith, s.range, few)))),
            ) in
            let get = get_goes (x ∷ xs) G n are sends (row_order v.sent G n (refl, row)) in
            let u : State = behind_get G n in
            let awaits : (g : Flight) (l : ℕ) → IsSound sets ways (at u waiting (fs ++ g ∷ []) l) → (hart_at sets waiting q.requester).request ≡ None → ⊥ =
            λ g l also. waits_forwarded (suc v.sent) x.0 q.block q.requester q.kind q.stamp (at u waiting (fs ++ g ∷ []) l) also
            (first_here (forward_flight x.0 (suc v.sent)) (forwards_from (suc (suc v.sent)) xs ++ g ∷ [])) in
            let granted_first : Goes u (grant_arrival q granted (x ∷ xs) settled ∷ []) (at u waiting fs n) =
            waits_on fs grant_flight told n q.requester u v.seats waiting get.1 row (omega (arith, s.range, few)) refl refl (grant_is q.requester q.block granted) awaits first grants
            (oldest_first (shown sets u) grant_flight fs n refl row) in
            let behind_grant = at u waiting (fs ++ []) n in
            let grant : Goes u (grant_arrival q granted (x ∷ xs) settled ∷ []) behind_grant = subst (λ l. Goes u (grant_arrival q granted (x ∷ xs) settled ∷ []) (at u waiting l n)) (sym (append-nil fs)) granted_first in
            let ask = forward_phase (x ∷ xs) (suc v.sent) n [] n u waiting mid count refl (omega (arith, s.range, few)) grant.1 asks in
            let tell = answer_phase x xs n (n + k) u mid first seats settled refl (omega (arith, s.range, few)) ask.1 tells in
            let last : State = at u seats (ending q.requester (n + k) settled) (number_by (n + k) settled) in
            let all : Goes u (so_far (x ∷ xs) settled) last = go_on u behind_grant last (grant_arrival q granted (x ∷ xs) settled ∷ []) (forward_arrivals q (x ∷ xs) ++ answer_arrivals q (x ∷ xs) settled) grant
            (go_on behind_grant (at u mid (answers_from n (x ∷ xs)) (n + k)) last (forward_arrivals q (x ∷ xs)) (answer_arrivals q (x ∷ xs) settled) ask tell) in
            subst (λ (l : ℕ). Begins (x ∷ xs) (so_far (x ∷ xs) settled) (at u seats (ending q.requester l settled) (number_by l settled))) (let many : n + k ≡ so_many k = omega arith in many) (u, get.0, refl, all)

        by_order : (xs : List (ℕ × ForwardAnswer)) (first : Settled) (waiting mid : List Seat) → length xs ≤ 8 → forwarded ≡ forwards_to q xs
            → Settles sets q.requester told v.seats waiting first → AllAsked xs waiting mid → AllTold xs mid first seats settled → Begins xs (so_far xs settled) (behind (length xs) seats settled)
        by_order [] first waiting mid few are grants asks (same, is) = none_asked first waiting are grants (same ∙ asks) is
        by_order (x ∷ xs) first waiting mid few are grants asks tells = some_asked x xs first waiting mid few are grants asks tells

        pub answered : (xs : List (ℕ × ForwardAnswer)) → length xs ≤ 8 → forwarded ≡ forwards_to q xs → Answered sets q granted xs v.seats seats settled → Begins xs (so_far xs settled) (behind (length xs) seats settled)
        answered xs few are (first, waiting, grants, answers) =
            let on = reorder xs waiting first seats settled answers in by_order xs first waiting on.0 few are grants on.1 on.2

        -- and its end, if it has ended
        abbrev pub served : ℕ → Blocks → State
        served k new = record v { seats = seats; directory = new; flights = []; sent = number_by (so_many k) settled }

        pub whole : (xs : List (ℕ × ForwardAnswer)) (new : Blocks) (number : ℕ) → length xs ≤ 8 → forwarded ≡ forwards_to q xs → Answered sets q granted xs v.seats seats settled
            → Ends (done_of q.requester settled) d new number → Begins xs (arrivals_behind q granted xs settled) (served (length xs) new)
        whole xs new number few are asks ended = by (answered xs few are asks)
          where
            by : Begins xs (so_far xs settled) (behind (length xs) seats settled) → Begins xs (arrivals_behind q granted xs settled) (served (length xs) new)
            by (u, first, same, gone) =
                let rest = ends (record v { seats = seats; directory = d; sent = number_by (so_many (length xs)) settled }) q.requester (so_many (length xs)) new settled number gone.1 ended in
                (u, first, same, go_on u (behind (length xs) seats settled) (served (length xs) new) (so_far xs settled) (end_arrivals (end_of q settled)) gone rest)

        pub numbered : (k : ℕ) (new : Blocks) (number : ℕ) → Ends (done_of q.requester settled) d new number → k ≤ 8 → number_by (so_many k) settled ≡ min (v.sent + (1 + (k + k) + number)) 18446744073709551615
        numbered k new number ended few = by settled ended
          where
            by : (t : Settled) → Ends (done_of q.requester t) d new number → number_by (so_many k) t ≡ min (v.sent + (1 + (k + k) + number)) 18446744073709551615
            by request.Waiting (same, none) = omega (arith, none, s.range, few)
            by (request.Refused b) (is, used, set) = omega (arith, is, s.range, few)
            by (request.Granted b content) (is, used, set) = omega (arith, is, s.range, few)

      pub as_ended : (t : Settled) (new : Blocks) (number : ℕ) → Ends (done_of q.requester t) d new number → number ≡ length (end_of q t)
      as_ended request.Waiting new number (same, none) = none
      as_ended (request.Refused b) new number (is, used, set) = is
      as_ended (request.Granted b content) new number (is, used, set) = is

      -- the block that it was for is in memory
      pub end_inside : (seats : List Seat) (settled : Settled) (xs : List (ℕ × ForwardAnswer)) → length xs ≤ 8 → forwarded ≡ forwards_to q xs → Answered sets q granted xs v.seats seats settled
          → IfSome (done_of q.requester settled) (λ m. block_of m < length d.memory)
      end_inside seats settled xs few are asks = by settled (last (answered seats settled xs few are asks))
        where
          last : Begins xs (so_far xs settled) (behind (length xs) seats settled) → IsSound sets ways (behind (length xs) seats settled)
          last (u, first, same, gone) = gone.1

          by : (t : Settled) → IsSound sets ways (record v { seats = seats; directory = d; flights = ending q.requester (so_many (length xs)) t; sent = number_by (so_many (length xs)) t }) → IfSome (done_of q.requester t) (λ m. block_of m < length d.memory)
          by request.Waiting also = tt
          by (request.Refused b) also = block_inside sets ways (so_many (length xs)) _ (Done q.requester b false None) also (first_here _ [])
          by (request.Granted b content) also = block_inside sets ways (so_many (length xs)) _ (Done q.requester b true content) also (first_here _ [])
