-- A request that is served at once, counted: what its messages count as, one after another, is what is told of it.
use Rattle.std.proofs.Common.{◌≡◌, ◌≢◌, ◌≤◌, ◌<◌, ◌+◌, ◌-◌, ◌*◌, ◌++◌, ◌∙◌, ◌&&◌, ℕ, zero, suc, Bool, true, false, not, nat_lt, List, [], ◌∷◌, length, map, Option, Some, None, cond, inl, inr, arith, refl, sym, ap, subst, subst₂}
use Rattle.std.specs.Prelude.{◌==◌, ◌||◌, ⊤, count_by, if◌then◌else◌, max}
use Rattle.std.specs.Option.{option_map, option_map_or}
use Rattle.std.proofs.lemmas.Bool.{cases_eq, lt-ltb, eq-eqb}
use Rattle.std.proofs.lemmas.List.Sums.{sum_by-cons}
use Rattle.std.proofs.lemmas.Option.{same_Some, none-some}
use Rattle.words.specs.Harts.{names}
use Rattle.words.specs.Limits.{most_harts}
use Rattle.words.specs.declared.entry.Step.TheVariants.{Deliver}
use Rattle.directory.specs.declared.rules.Request.{Request}
use Rattle.hart.specs.declared.reply.ForwardAnswer.{ForwardAnswer}
use Rattle.hart.specs.declared.reply.ForwardAnswer.TheVariants as answer
use Rattle.hart.specs.declared.reply.Settled.{Settled}
use Rattle.hart.specs.declared.reply.Settled.TheVariants as request
use Rattle.hart.specs.Rows.{refusal_of}
use Rattle.network.specs.declared.net.Flight.{Flight}
use Rattle.network.specs.Flights.{AreInOrder, AreNumbered, flight_at}
use Rattle.protocol.specs.Hart.{Hart}
use Rattle.protocol.specs.Caches.{Geometry}
use Rattle.protocol.specs.Messages.{Message, Granted, Get, shown as shown_message}
use Rattle.protocol.specs.Machine.{Machine}
use Rattle.machine.proofs.Arriving.{arrivals_number}
use Rattle.machine.specs.Serving.{Arrival, ArriveAll, HearsReplies, IsServed, arrivals_behind, answer_arrivals, end_arrivals, end_of, forward_arrivals, forwards_to, get_arrival, grant_arrival, is_asked, refuses, sent_with_grant}
use Rattle.machine.specs.States.{State, hart_at, shown}
use Rattle.machine.specs.declared.serving.Service.{Service}
use Rattle.schedule.specs.Moments.{Moment, moment}
use Rattle.schedule.specs.Runs.{TookTurns}
use Rattle.schedule.specs.declared.choices.Sort.{Sort}
use Rattle.schedule.specs.declared.choices.Sort.TheVariants as sort
use Rattle.watch.specs.declared.counting.Tally.{Tally}
use Rattle.watch.specs.declared.figures.Sum.{Sum}
use Rattle.watch.specs.declared.figures.Sum.TheVariants.{Deliveries, Sent}
use Rattle.watch.specs.declared.kinds.Kind.{Kind}
use Rattle.watch.specs.declared.kinds.Kind.TheVariants.{Held}
use Rattle.watch.specs.Kinds.{Fresh, Grows, asked_by, asks_if, count_at, counts_if, counts_in, counts_served, fresh_behind, held_behind, none_fresh, number_from, number_in, one_if, waits_behind}
use Rattle.watch.specs.Traffic.{capped, in_flight, in_use, is_same, most, served_as, sum_at, total}
use Rattle.watch.specs.Runs.{Adds, CountsEntry, NotesServed, TakesCounted}
use Rattle.watch.proofs.Arrivals.{AskNothing, IsPlainly, ToHarts, all_sent, arriving_both, as_many, ask_nothing_both, entries_both, entry_number, freshened, hears, hears_both, levels, moments_of, number_arriving, number_sent, numbered, numbers, plainly_both, to_harts_both, took, tops, totals}
use Rattle.watch.proofs.Tallying.{grown, no_more}

-- What they send, and how often they arrive

abbrev pub refusing : List (ℕ × ForwardAnswer) → ℕ
refusing xs = count_by refuses (map (λ x. x.1) xs)

pub refusing_first : (x : ℕ × ForwardAnswer) (xs : List (ℕ × ForwardAnswer)) → refusing (x ∷ xs) ≡ cond (refuses x.1) 1 0 + refusing xs
refusing_first x xs = sum_by-cons (λ a. cond (refuses a) 1 0) x.1 (map (λ (y : ℕ × ForwardAnswer). y.1) xs)

pub refusals_within : (xs : List (ℕ × ForwardAnswer)) → refusing xs ≤ length xs
refusals_within [] = omega arith
refusals_within ((i, answer.Ack content) ∷ xs) = let first : refusing ((i, answer.Ack content) ∷ xs) ≡ 0 + refusing xs = refusing_first (i, answer.Ack content) xs in let rest : refusing xs ≤ length xs = refusals_within xs in omega (arith, first, rest)
refusals_within ((i, answer.Nack stamp) ∷ xs) = let first : refusing ((i, answer.Nack stamp) ∷ xs) ≡ 1 + refusing xs = refusing_first (i, answer.Nack stamp) xs in let rest : refusing xs ≤ length xs = refusals_within xs in omega (arith, first, rest)

module _ (s : Sum) (q : Request) where
  abbrev arrived : ℕ
  arrived = one_if (is_same s Deliveries)

  abbrev of_sort : Sort → ℕ
  of_sort x = one_if (is_same s (Sent x))

  forwards_sent : (xs : List (ℕ × ForwardAnswer)) → number_sent s (forwards_to q xs) ≡ length xs * of_sort sort.Forward
  forwards_sent [] = omega arith
  forwards_sent (x ∷ xs) =
      let rest : number_sent s (forwards_to q xs) ≡ length xs * of_sort sort.Forward = forwards_sent xs in
      omega (arith, rest)

  end_sent : (t : Settled) → number_sent s (end_of q t) ≡ length (end_of q t) * of_sort sort.Done
  end_sent request.Waiting = omega arith
  end_sent (request.Refused b) = omega arith
  end_sent (request.Granted b content) = omega arith

  -- each forward is answered: so many agree, and the others refuse
  answered : (xs : List (ℕ × ForwardAnswer)) → (n : ℕ) × (n + refusing xs ≡ length xs)
      × (number_arriving s (forward_arrivals q xs) ≡ length xs * arrived + n * of_sort sort.Ack + refusing xs * of_sort sort.Nack)
  answered [] = (0, refl, omega arith)
  answered ((i, answer.Ack content) ∷ xs) =
      let so_far = answered xs in
      let first : refusing ((i, answer.Ack content) ∷ xs) ≡ 0 + refusing xs = refusing_first (i, answer.Ack content) xs in
      let same : refusing ((i, answer.Ack content) ∷ xs) ≡ refusing xs = omega (arith, first) in
      let rest : number_arriving s (forward_arrivals q xs) ≡ length xs * arrived + so_far.0 * of_sort sort.Ack + refusing xs * of_sort sort.Nack = so_far.2 in
      (suc so_far.0, omega (arith, same, so_far.1), subst (λ r. number_arriving s (forward_arrivals q ((i, answer.Ack content) ∷ xs)) ≡ length ((i, answer.Ack content) ∷ xs) * arrived + suc so_far.0 * of_sort sort.Ack + r * of_sort sort.Nack) (sym same) (omega (arith, rest)))
  answered ((i, answer.Nack stamp) ∷ xs) =
      let so_far = answered xs in
      let first : refusing ((i, answer.Nack stamp) ∷ xs) ≡ 1 + refusing xs = refusing_first (i, answer.Nack stamp) xs in
      let more : refusing ((i, answer.Nack stamp) ∷ xs) ≡ suc (refusing xs) = omega (arith, first) in
      let rest : number_arriving s (forward_arrivals q xs) ≡ length xs * arrived + so_far.0 * of_sort sort.Ack + refusing xs * of_sort sort.Nack = so_far.2 in
      (so_far.0, omega (arith, more, so_far.1), subst (λ r. number_arriving s (forward_arrivals q ((i, answer.Nack stamp) ∷ xs)) ≡ length ((i, answer.Nack stamp) ∷ xs) * arrived + so_far.0 * of_sort sort.Ack + r * of_sort sort.Nack) (sym more) (omega (arith, rest)))

  -- the last that the requester hears has the end sent
  last_heard : (t : Settled) (x : ℕ × ForwardAnswer) (xs : List (ℕ × ForwardAnswer)) → number_arriving s (answer_arrivals q (x ∷ xs) t) ≡ suc (length xs) * arrived + number_sent s (end_of q t)
  last_heard t x [] = omega arith
  last_heard t x (y ∷ ys) =
      let rest : number_arriving s (answer_arrivals q (y ∷ ys) t) ≡ suc (length ys) * arrived + number_sent s (end_of q t) = last_heard t y ys in
      omega (arith, rest)

  all_heard : (t : Settled) (xs : List (ℕ × ForwardAnswer)) → number_sent s (sent_with_grant q xs t) + number_arriving s (answer_arrivals q xs t) ≡ length xs * arrived + number_sent s (end_of q t)
  all_heard t [] = omega arith
  all_heard t (x ∷ xs) =
      let rest : number_arriving s (answer_arrivals q (x ∷ xs) t) ≡ suc (length xs) * arrived + number_sent s (end_of q t) = last_heard t x xs in
      omega (arith, rest)

  ended : (ms : List Message) → number_arriving s (end_arrivals ms) ≡ length ms * arrived
  ended [] = omega arith
  ended (m ∷ ms) = let rest : number_arriving s (end_arrivals ms) ≡ length ms * arrived = ended ms in omega (arith, rest)

  -- all together
  counted_so : (granted : Granted) (xs : List (ℕ × ForwardAnswer)) (t : Settled) (x : Service) → x.answers ≡ length xs → x.refusals ≡ refusing xs → x.ended ≡ length (end_of q t)
      → number_arriving s (get_arrival q granted xs ∷ arrivals_behind q granted xs t) ≡ served_as s x
  counted_so granted xs t x answers refusals ends =
      let ds : List Arrival = forward_arrivals q xs in
      let bs : List Arrival = answer_arrivals q xs t in
      let cs : List Arrival = end_arrivals (end_of q t) in
      let heard : number_arriving s ((ds ++ bs) ++ cs) ≡ number_arriving s (ds ++ bs) + number_arriving s cs = arriving_both s (ds ++ bs) cs in
      let both : number_arriving s (ds ++ bs) ≡ number_arriving s ds + number_arriving s bs = arriving_both s ds bs in
      let asked = answered xs in
      let agree : asked.0 ≡ length xs - refusing xs = omega (arith, asked.1) in
      let forwarded : number_arriving s ds ≡ length xs * arrived + (length xs - refusing xs) * of_sort sort.Ack + refusing xs * of_sort sort.Nack =
      subst (λ n. number_arriving s ds ≡ length xs * arrived + n * of_sort sort.Ack + refusing xs * of_sort sort.Nack) agree asked.2 in
      let told : number_sent s (sent_with_grant q xs t) + number_arriving s bs ≡ length xs * arrived + number_sent s (end_of q t) = all_heard t xs in
      let sent : number_sent s (forwards_to q xs) ≡ length xs * of_sort sort.Forward = forwards_sent xs in
      let end : number_sent s (end_of q t) ≡ length (end_of q t) * of_sort sort.Done = end_sent t in
      let over : number_arriving s cs ≡ length (end_of q t) * arrived = ended (end_of q t) in
      let whole : number_arriving s (get_arrival q granted xs ∷ arrivals_behind q granted xs t)
      ≡ (2 + 2 * length xs + length (end_of q t)) * arrived + 1 * of_sort sort.Grant + length xs * of_sort sort.Forward
      + (length xs - refusing xs) * of_sort sort.Ack + refusing xs * of_sort sort.Nack + length (end_of q t) * of_sort sort.Done =
      omega (arith, heard, both, forwarded, told, sent, end, over) in
      whole ∙ sym (λ k. (2 + 2 * answers k + ends k) * arrived + 1 * of_sort sort.Grant + answers k * of_sort sort.Forward
      + (answers k - refusals k) * of_sort sort.Ack + refusals k * of_sort sort.Nack + ends k * of_sort sort.Done)

-- How much is in flight

abbrev SendOne : List Arrival → Type 0
SendOne [] = ⊤
SendOne (a ∷ ds) = (length a.sent ≤ 1) × SendOne ds

send_both : (ds bs : List Arrival) → SendOne ds → SendOne bs → SendOne (ds ++ bs)
send_both [] bs first later = later
send_both (a ∷ ds) bs (one, first) later = (one, send_both ds bs first later)

below : (n top : ℕ) (ds : List Arrival) → n ≤ top → 1 ≤ top → SendOne ds → tops n ds ≤ top
below n top [] low some one = omega arith
below n top (a ∷ ds) low some (one, rest) =
    let now : n - 1 + length a.sent ≤ top = omega (arith, low, some, one) in
    let later : tops (n - 1 + length a.sent) ds ≤ top = below (n - 1 + length a.sent) top ds now some rest in
    omega (arith, now, later)

sent_in_all : (ds : List Arrival) → SendOne ds → all_sent ds ≤ length ds
sent_in_all [] one = omega arith
sent_in_all (a ∷ ds) (one, rest) = let later : all_sent ds ≤ length ds = sent_in_all ds rest in omega (arith, one, later)

module _ (q : Request) where
  one_end : (t : Settled) → length (end_of q t) ≤ 1
  one_end request.Waiting = omega arith
  one_end (request.Refused b) = omega arith
  one_end (request.Granted b content) = omega arith

  one_with_grant : (xs : List (ℕ × ForwardAnswer)) (t : Settled) → length (sent_with_grant q xs t) ≤ 1
  one_with_grant [] t = one_end t
  one_with_grant (x ∷ xs) t = omega arith

  forwards_send : (xs : List (ℕ × ForwardAnswer)) → SendOne (forward_arrivals q xs)
  forwards_send [] = tt
  forwards_send (x ∷ xs) = (omega arith, forwards_send xs)

  answers_send : (xs : List (ℕ × ForwardAnswer)) (t : Settled) → SendOne (answer_arrivals q xs t)
  answers_send [] t = tt
  answers_send (x ∷ []) t = (one_end t, tt)
  answers_send (x ∷ y ∷ ys) t = (omega arith, answers_send (y ∷ ys) t)

  ends_send : (ms : List Message) → SendOne (end_arrivals ms)
  ends_send [] = tt
  ends_send (m ∷ ms) = (omega arith, ends_send ms)

  as_many_forwarded : (xs : List (ℕ × ForwardAnswer)) → length (forwards_to q xs) ≡ length xs
  as_many_forwarded [] = refl
  as_many_forwarded (x ∷ xs) = ap suc (as_many_forwarded xs)

  behind_sends : (granted : Granted) (xs : List (ℕ × ForwardAnswer)) (t : Settled) → SendOne (arrivals_behind q granted xs t)
  behind_sends granted xs t = (
    one_with_grant xs t,
    send_both (forward_arrivals q xs ++ answer_arrivals q xs t) (end_arrivals (end_of q t))
        (send_both (forward_arrivals q xs) (answer_arrivals q xs t) (forwards_send xs) (answers_send xs t)) (ends_send (end_of q t)),
  )

  highest : (granted : Granted) (xs : List (ℕ × ForwardAnswer)) (t : Settled) → tops 1 (get_arrival q granted xs ∷ arrivals_behind q granted xs t) ≡ 1 + length xs
  highest granted xs t =
      let n : ℕ = 1 - 1 + suc (length (forwards_to q xs)) in
      let many : length (forwards_to q xs) ≡ length xs = as_many_forwarded xs in
      let later : tops n (arrivals_behind q granted xs t) ≤ n = below n n (arrivals_behind q granted xs t) (omega arith) (omega arith) (behind_sends granted xs t) in
      omega (arith, many, later)

-- Which harts hear them

or_none : (b : Bool) → (b || false) ≡ b
or_none true = refl
or_none false = refl

or_all : (b : Bool) → (b || true) ≡ true
or_all true = refl
or_all false = refl

module _ (q : Request) (j : ℕ) where
  forwards_heard : (xs : List (ℕ × ForwardAnswer)) → hears (forward_arrivals q xs) j ≡ is_asked xs j
  forwards_heard [] = refl
  forwards_heard (x ∷ xs) = ap (λ b. (x.0 == j) || b) (forwards_heard xs)

  answers_heard : (xs : List (ℕ × ForwardAnswer)) (t : Settled) → (q.requester == j) ≡ false → hears (answer_arrivals q xs t) j ≡ false
  answers_heard [] t apart = refl
  answers_heard ((i, answer.Ack content) ∷ []) t apart = ap (λ b. b || false) apart
  answers_heard ((i, answer.Nack stamp) ∷ []) t apart = ap (λ b. b || false) apart
  answers_heard ((i, answer.Ack content) ∷ y ∷ ys) t apart = ap (λ b. b || hears (answer_arrivals q (y ∷ ys) t) j) apart ∙ answers_heard (y ∷ ys) t apart
  answers_heard ((i, answer.Nack stamp) ∷ y ∷ ys) t apart = ap (λ b. b || hears (answer_arrivals q (y ∷ ys) t) j) apart ∙ answers_heard (y ∷ ys) t apart

  ends_heard : (t : Settled) → hears (end_arrivals (end_of q t)) j ≡ false
  ends_heard request.Waiting = refl
  ends_heard (request.Refused b) = refl
  ends_heard (request.Granted b content) = refl

  heard_by : (granted : Granted) (xs : List (ℕ × ForwardAnswer)) (t : Settled) → hears (get_arrival q granted xs ∷ arrivals_behind q granted xs t) j ≡ ((q.requester == j) || is_asked xs j)
  heard_by granted xs t = by (q.requester == j) refl
    where
      ds : List Arrival
      ds = forward_arrivals q xs

      bs : List Arrival
      bs = answer_arrivals q xs t

      others : (q.requester == j) ≡ false → hears ((ds ++ bs) ++ end_arrivals (end_of q t)) j ≡ is_asked xs j
      others apart =
          hears_both (ds ++ bs) (end_arrivals (end_of q t)) j ∙ ap (λ b. hears (ds ++ bs) j || b) (ends_heard t) ∙ or_none (hears (ds ++ bs) j)
          ∙ hears_both ds bs j ∙ ap (λ b. hears ds j || b) (answers_heard xs t apart) ∙ or_none (hears ds j) ∙ forwards_heard xs

      by : (b : Bool) → (q.requester == j) ≡ b → ((q.requester == j) || hears ((ds ++ bs) ++ end_arrivals (end_of q t)) j) ≡ ((q.requester == j) || is_asked xs j)
      by true here = ap (λ b. b || hears ((ds ++ bs) ++ end_arrivals (end_of q t)) j) here ∙ sym (ap (λ b. b || is_asked xs j) here)
      by false apart = ap (λ b. (q.requester == j) || b) (others apart)

-- How much is in use

module _ (g : Geometry) where
  -- messages to harts leave it as it is, and an end behind them changes it at most
  used_behind : (ds : List Arrival) (ms : List Message) (v w : State) (all : ArriveAll g v (ds ++ end_arrivals ms) w) → ToHarts ds → length ms ≤ 1
      → max (length v.directory.kept) (most in_use (moments_of g v (ds ++ end_arrivals ms) w all)) ≡ max (length v.directory.kept) (length w.directory.kept)
  used_behind [] [] v w same to one = let equal : length w.directory.kept ≡ length v.directory.kept = ap (λ (m : State). length m.directory.kept) same in omega (arith, equal)
  used_behind [] (m ∷ []) v w (u, first, same) to one =
      let equal : length w.directory.kept ≡ length u.directory.kept = ap (λ (m : State). length m.directory.kept) same in
      omega (arith, equal)
  used_behind [] (m ∷ n ∷ ms) v w all to one = absurd (omega (arith, one))
  used_behind (a ∷ ds) ms v w (u, first, rest) (goes, to) one =
      let equal : length u.directory.kept ≡ length v.directory.kept = ap (λ d. length d.kept) (first.directory goes) in
      let later : max (length u.directory.kept) (most in_use (moments_of g u (ds ++ end_arrivals ms) w rest)) ≡ max (length u.directory.kept) (length w.directory.kept) = used_behind ds ms u w rest to one in
      omega (arith, equal, later)

module _ (q : Request) where
  forwards_to_harts : (xs : List (ℕ × ForwardAnswer)) → ToHarts (forward_arrivals q xs)
  forwards_to_harts [] = tt
  forwards_to_harts (x ∷ xs) = (refl, forwards_to_harts xs)

  answers_to_harts : (xs : List (ℕ × ForwardAnswer)) (t : Settled) → ToHarts (answer_arrivals q xs t)
  answers_to_harts [] t = tt
  answers_to_harts ((i, answer.Ack content) ∷ []) t = (refl, tt)
  answers_to_harts ((i, answer.Nack stamp) ∷ []) t = (refl, tt)
  answers_to_harts ((i, answer.Ack content) ∷ y ∷ ys) t = (refl, answers_to_harts (y ∷ ys) t)
  answers_to_harts ((i, answer.Nack stamp) ∷ y ∷ ys) t = (refl, answers_to_harts (y ∷ ys) t)

  heard_by_harts : (granted : Granted) (xs : List (ℕ × ForwardAnswer)) (t : Settled) → ToHarts (grant_arrival q granted xs t ∷ (forward_arrivals q xs ++ answer_arrivals q xs t))
  heard_by_harts granted xs t = (refl, to_harts_both (forward_arrivals q xs) (answer_arrivals q xs t) (forwards_to_harts xs) (answers_to_harts xs t))

-- What entries count as

module _ (h : ℕ) (k : Kind) (q : Request) where
  answers_told : (xs : List (ℕ × ForwardAnswer)) (t : Settled) → entry_number h k (answer_arrivals q xs t) ≡ 0
  answers_told [] t = refl
  answers_told (x ∷ []) t = omega arith
  answers_told (x ∷ y ∷ ys) t = let rest : entry_number h k (answer_arrivals q (y ∷ ys) t) ≡ 0 = answers_told (y ∷ ys) t in omega (arith, rest)

  ends_told : (ms : List Message) → entry_number h k (end_arrivals ms) ≡ 0
  ends_told [] = refl
  ends_told (m ∷ ms) = let rest : entry_number h k (end_arrivals ms) ≡ 0 = ends_told ms in omega (arith, rest)

  -- only refusals do
  all_told : (granted : Granted) (xs : List (ℕ × ForwardAnswer)) (t : Settled) → entry_number h k (arrivals_behind q granted xs t) ≡ entry_number h k (forward_arrivals q xs)
  all_told granted xs t =
      let ds : List Arrival = forward_arrivals q xs in
      let bs : List Arrival = answer_arrivals q xs t in
      let whole : entry_number h k ((ds ++ bs) ++ end_arrivals (end_of q t)) ≡ entry_number h k (ds ++ bs) + entry_number h k (end_arrivals (end_of q t)) = entries_both h k (ds ++ bs) (end_arrivals (end_of q t)) in
      let both : entry_number h k (ds ++ bs) ≡ entry_number h k ds + entry_number h k bs = entries_both h k ds bs in
      omega (arith, whole, both, answers_told xs t, ends_told (end_of q t))

  -- and they were heard
  heard_all : (xs : List (ℕ × ForwardAnswer)) (t mid : Tally) → HearsReplies CountsEntry q.requester q.block t xs mid
      → (mid ≡ record t { harts = mid.harts }) × Grows (count_at t.harts h k) (entry_number h k (forward_arrivals q xs)) (count_at mid.harts h k)
  heard_all [] t mid same = (sym same ∙ ap (λ (x : Tally). record t { harts = x.harts }) same, subst (λ (x : Tally). Grows (count_at t.harts h k) 0 (count_at x.harts h k)) same (no_more (count_at t.harts h k)))
  heard_all (x ∷ xs) t mid (next, first, rest) =
      let later = heard_all xs next mid rest in (
        later.0 ∙ ap (λ (y : Tally). record y { harts = mid.harts }) first.rest,
        grown (count_at t.harts h k) (count_at next.harts h k) (count_at mid.harts h k) (number_in h k (counts_if none_fresh (refusal_of x.0 q.requester q.block x.1))) (entry_number h k (forward_arrivals q xs))
            (entry_number h k (forward_arrivals q (x ∷ xs))) (alike x.1 (first.harts h k)) later.1 refl,
      )
    where
      alike : (a : ForwardAnswer) → Grows (count_at t.harts h k) (number_in h k (counts_if (names t.fresh) (refusal_of x.0 q.requester q.block a))) (count_at next.harts h k)
          → Grows (count_at t.harts h k) (number_in h k (counts_if none_fresh (refusal_of x.0 q.requester q.block a))) (count_at next.harts h k)
      alike (answer.Ack content) grows = grows
      alike (answer.Nack stamp) grows = grows

-- and count the same, whoever is fresh
module _ (q : Request) where
  forwards_alike : (xs : List (ℕ × ForwardAnswer)) → IsPlainly (forward_arrivals q xs)
  forwards_alike [] = tt
  forwards_alike ((i, answer.Ack content) ∷ xs) = ((λ fresh. refl), forwards_alike xs)
  forwards_alike ((i, answer.Nack stamp) ∷ xs) = ((λ fresh. refl), forwards_alike xs)

  answers_alike : (xs : List (ℕ × ForwardAnswer)) (t : Settled) → IsPlainly (answer_arrivals q xs t)
  answers_alike [] t = tt
  answers_alike (x ∷ []) t = ((λ fresh. refl), tt)
  answers_alike (x ∷ y ∷ ys) t = ((λ fresh. refl), answers_alike (y ∷ ys) t)

  ends_alike : (ms : List Message) → IsPlainly (end_arrivals ms)
  ends_alike [] = tt
  ends_alike (m ∷ ms) = ((λ fresh. refl), ends_alike ms)

  behind_alike : (granted : Granted) (xs : List (ℕ × ForwardAnswer)) (t : Settled) → IsPlainly (arrivals_behind q granted xs t)
  behind_alike granted xs t = (
    (λ fresh. refl),
    plainly_both (forward_arrivals q xs ++ answer_arrivals q xs t) (end_arrivals (end_of q t))
        (plainly_both (forward_arrivals q xs) (answer_arrivals q xs t) (forwards_alike xs) (answers_alike xs t)) (ends_alike (end_of q t)),
  )

-- no other request arrives
module _ (q : Request) where
  forwards_ask : (xs : List (ℕ × ForwardAnswer)) → AskNothing (forward_arrivals q xs)
  forwards_ask [] = tt
  forwards_ask (x ∷ xs) = (refl, forwards_ask xs)

  answers_ask : (xs : List (ℕ × ForwardAnswer)) (t : Settled) → AskNothing (answer_arrivals q xs t)
  answers_ask [] t = tt
  answers_ask ((i, answer.Ack content) ∷ []) t = (refl, tt)
  answers_ask ((i, answer.Nack stamp) ∷ []) t = (refl, tt)
  answers_ask ((i, answer.Ack content) ∷ y ∷ ys) t = (refl, answers_ask (y ∷ ys) t)
  answers_ask ((i, answer.Nack stamp) ∷ y ∷ ys) t = (refl, answers_ask (y ∷ ys) t)

  ends_ask : (t : Settled) → AskNothing (end_arrivals (end_of q t))
  ends_ask request.Waiting = tt
  ends_ask (request.Refused b) = (refl, tt)
  ends_ask (request.Granted b content) = (refl, tt)

  behind_ask : (granted : Granted) (xs : List (ℕ × ForwardAnswer)) (t : Settled) → AskNothing (arrivals_behind q granted xs t)
  behind_ask granted xs t = (
    refl,
    ask_nothing_both (forward_arrivals q xs ++ answer_arrivals q xs t) (end_arrivals (end_of q t))
        (ask_nothing_both (forward_arrivals q xs) (answer_arrivals q xs t) (forwards_ask xs) (answers_ask xs t)) (ends_ask t),
  )

-- Requests that are held

-- those of other harts are the same behind it
module _ (w u : Machine) (r b : ℕ) (same : (i : ℕ) → i ≢ r → (u.harts i).request ≡ (w.harts i).request) where
  waits_alike : (j : ℕ) → waits_behind w r b j ≡ waits_behind u r b j
  waits_alike j = elim (cases_eq j r) [
    | inl e ↦ ap (λ c. not c && option_map_or (λ x. x.block == b) (w.harts j).request false) (eq-eqb j r e) ∙ sym (ap (λ c. not c && option_map_or (λ x. x.block == b) (u.harts j).request false) (eq-eqb j r e))
    | inr ne ↦ ap (λ o. not (j == r) && option_map_or (λ x. x.block == b) o false) (sym (same j ne))
  ]

  held_alike : (n : ℕ) → held_behind w r b n ≡ held_behind u r b n
  unfolding held_behind
  held_alike zero = refl
  held_alike (suc n) = ap (λ l. l ++ (if waits_behind w r b n then (n, Held) ∷ [] else [])) (held_alike n) ∙ ap (λ c. held_behind u r b n ++ (if c then (n, Held) ∷ [] else [])) (waits_alike n)

-- All together

module _ (g : Geometry) (v w : State) (x : Service) (xs : List (ℕ × ForwardAnswer)) (is : IsServed g v x xs w) where
  abbrev q : Request
  q = is.request

  abbrev behind : List Arrival
  behind = arrivals_behind q is.granted xs is.settled

  abbrev pub every : List Arrival
  every = get_arrival q is.granted xs ∷ behind

  abbrev pub gone : ArriveAll g v every w
  gone = (is.mid, is.first, is.rest)

  abbrev pub at : List Moment
  at = moments_of g v every w gone

  length_of : length every ≡ 2 + 2 * x.answers + x.ended
  length_of = arrivals_number g v w x xs is

  -- each has a number, and there are enough
  few_sent : v.sent + all_sent every ≤ 18446744073709551615
  few_sent =
      let rest : all_sent behind ≤ length behind = sent_in_all behind (behind_sends q is.granted xs is.settled) in
      let long : length every ≡ suc (length behind) = refl in
      let forwards : length (forwards_to q xs) ≡ length xs = as_many_forwarded q xs in
      let whole : all_sent every ≡ suc (length (forwards_to q xs)) + all_sent behind = refl in
      let end : length (end_of q is.settled) ≤ 1 = one_end q is.settled in
      omega (arith, rest, long, forwards, whole, end, length_of, is.told.number_is, is.ended, is.few, is.harts)

  -- what the request counts as: those that are held for it
  asks_for : (o : Option Flight) (m : Message) → option_map shown_message (option_map (λ (f : Flight). f.message) o) ≡ Some m → asks_if o ≡ asked_by m
  asks_for None m there = absurd (none-some m there)
  asks_for (Some f) m there = ap asked_by (same_Some (shown_message f.message) m there)

  -- the request is alone in flight
  in_order : AreInOrder v.flights
  in_order = subst AreInOrder (sym is.only.1) ((λ number f at. absurd (none-some f at)), tt)

  module _ (below_next : (number : ℕ) (f : Flight) → flight_at v.flights number ≡ Some f → f.number < v.sent) where
    sent_first : nat_lt v.sent is.mid.sent ≡ true
    sent_first =
        let next = (numbered g v (get_arrival q is.granted xs ∷ []) is.mid (is.mid, is.first, refl) in_order below_next (omega (arith, few_sent))).0 in
        lt-ltb v.sent is.mid.sent (omega (arith, next))

    held : (h : ℕ) (k : Kind) (fresh : Fresh) → number_in h k (counts_in g.sets fresh (moment v (Deliver is.first.number) None is.mid)) ≡ number_in h k (held_behind (shown g.sets w) q.requester q.block most_harts)
    held h k fresh =
        let same : (i : ℕ) → i ≢ q.requester → ((shown g.sets w).harts i).request ≡ ((shown g.sets is.mid).harts i).request =
        λ i ne. is.waits i ne ∙ sym (ap (λ (t : Hart). t.request) (is.first.others i (λ e. none-some i e))) in
        ap (λ c. number_in h k (if c then counts_served (shown g.sets is.mid) (asks_if (flight_at v.flights is.first.number)) else [])) sent_first
        ∙ ap (λ o. number_in h k (counts_served (shown g.sets is.mid) o)) (asks_for (flight_at v.flights is.first.number) (Get q.requester q.block q.kind q.stamp) is.first.here)
        ∙ ap (number_in h k) (held_alike (shown g.sets is.mid) (shown g.sets w) q.requester q.block same most_harts)

    all_numbers : (h : ℕ) (k : Kind) (fresh : Fresh) → number_from g.sets h k fresh at ≡ entry_number h k (forward_arrivals q xs) + number_in h k (held_behind (shown g.sets w) q.requester q.block most_harts)
    all_numbers h k fresh =
        let m : Moment = moment v (Deliver is.first.number) None is.mid in
        let first : number_in h k (counts_in g.sets fresh m) ≡ number_in h k (held_behind (shown g.sets w) q.requester q.block most_harts) = held h k fresh in
        let later : number_from g.sets h k (fresh_behind g.sets fresh m) (moments_of g is.mid behind w is.rest) ≡ entry_number h k behind =
        numbers g is.mid behind w is.rest (behind_ask q is.granted xs is.settled) (behind_alike q is.granted xs is.settled) h k (fresh_behind g.sets fresh m) in
        let only : entry_number h k behind ≡ entry_number h k (forward_arrivals q xs) = all_told h k q is.granted xs is.settled in
        let whole : number_from g.sets h k fresh at ≡ number_in h k (counts_in g.sets fresh m) + number_from g.sets h k (fresh_behind g.sets fresh m) (moments_of g is.mid behind w is.rest) = refl in
        omega (arith, first, later, only, whole)

    -- how many are in flight, and in use
    flying : most in_flight at ≡ 1 + x.answers
    flying =
        let one : length v.flights ≡ 1 = ap (λ (fs : List Flight). length fs) is.only.1 in
        levels g v every w gone in_order below_next few_sent ∙ ap (λ n. tops n every) one ∙ highest q is.granted xs is.settled ∙ ap (λ n. 1 + n) (sym is.told.number_is)

    using : most in_use at ≡ max x.used (length w.directory.kept)
    using =
        let heard : List Arrival = grant_arrival q is.granted xs is.settled ∷ (forward_arrivals q xs ++ answer_arrivals q xs is.settled) in
        used_behind g heard (end_of q is.settled) is.mid w is.rest (heard_by_harts q is.granted xs is.settled) (one_end q is.settled) ∙ ap (λ n. max n (length w.directory.kept)) (sym is.used)

    counted : (t mid u : Tally) → HearsReplies CountsEntry q.requester q.block t xs mid → NotesServed g.sets x w mid u → Adds g.sets t at u
    counted t mid u heard notes = record {
      harts = λ h k.
          let told = heard_all h k q xs t mid heard in
          let asked : Grows (count_at mid.harts h k) (number_in h k (held_behind (shown g.sets w) q.requester q.block most_harts)) (count_at u.harts h k) =
          subst₂ (λ (r b : ℕ). Grows (count_at mid.harts h k) (number_in h k (held_behind (shown g.sets w) r b most_harts)) (count_at u.harts h k)) is.requester is.block (notes.harts h k) in
          grown (count_at t.harts h k) (count_at mid.harts h k) (count_at u.harts h k) (entry_number h k (forward_arrivals q xs)) (number_in h k (held_behind (shown g.sets w) q.requester q.block most_harts))
          (number_from g.sets h k (names t.fresh) at) told.1 asked (all_numbers h k (names t.fresh));
      fresh = λ i. notes.fresh i ∙ (λ k. if (is.requester k == i) || is.told.asked_is i k then (hart_at g.sets w.seats i).fresh else names (rest k).fresh i)
          ∙ sym (freshened g v every w gone (names t.fresh) i ∙ ap (λ b. if b then (hart_at g.sets w.seats i).fresh else names t.fresh i) (heard_by q i is.granted xs is.settled));
      sums = λ s low.
          let same : served_as s x ≡ total s at = sym (totals g v every w gone in_order below_next few_sent s ∙ counted_so s q is.granted xs is.settled x is.told.number_is is.told.refusals_is is.ended) in
          notes.sums s ∙ (λ k. capped (sum_at (rest k).machine s + same k));
      most_in_flight = notes.most_in_flight ∙ (λ k. max (rest k).machine.most_in_flight (sym flying k));
      most_in_use =
          let all : most in_use at ≡ max x.used (length w.directory.kept) = using in
          let kept : mid.machine.most_in_use ≡ t.machine.most_in_use = ap (λ (y : Tally). y.machine.most_in_use) rest in
          omega (arith, notes.most_in_use, all, kept);
    }
      where
        rest : mid ≡ record t { harts = mid.harts }
        rest = (heard_all 0 Held q xs t mid heard).0

-- the turns of a request that is served, with their moments
pub served_took : (g : Geometry) (v w : State) (x : Service) (xs : List (ℕ × ForwardAnswer)) (is : IsServed g v x xs w) (after : ℕ) → TookTurns g v after (at g v w x xs is) w after
served_took g v w x xs is after = took g v (every g v w x xs is) w (gone g v w x xs is) after

pub served_many : (g : Geometry) (v w : State) (x : Service) (xs : List (ℕ × ForwardAnswer)) (is : IsServed g v x xs w) → 2 + 2 * x.answers + x.ended ≡ length (at g v w x xs is)
served_many g v w x xs is = sym (length_of g v w x xs is) ∙ as_many g v (every g v w x xs is) w (gone g v w x xs is)

-- the turns of a request that is served were taken, and counted
pub served_counted : (g : Geometry) (v w : State) (x : Service) (xs : List (ℕ × ForwardAnswer)) → IsServed g v x xs w → AreNumbered v.flights v.sent
    → (t mid u : Tally) → HearsReplies CountsEntry x.requester x.block t xs mid → NotesServed g.sets x w mid u → (after : ℕ) → TakesCounted g v after (2 + 2 * x.answers + x.ended) w after t u
served_counted g v w x xs is are t mid u heard notes after = record {
  moments = at g v w x xs is;
  took = served_took g v w x xs is after;
  turns = served_many g v w x xs is;
  adds = counted g v w x xs is are t mid u
      (subst₂ (λ (r b : ℕ). HearsReplies CountsEntry r b t xs mid) is.requester is.block heard) notes;
}
