-- Messages that arrive one after another: the moments of their arrivals, and what these count as.
use Rattle.std.proofs.Common.{◌≡◌, ◌≢◌, ◌≤◌, ◌+◌, ◌-◌, ◌++◌, ◌∙◌, ℕ, suc, Bool, true, false, List, [], ◌∷◌, length, Option, Some, None, refl, sym, ap, arith, subst}
use Rattle.std.specs.Prelude.{◌==◌, ◌||◌, IsSome, count_by, if◌then◌else◌, max, nat_lt, ⊤}
use Rattle.std.specs.Option.{option_map}
use Rattle.std.proofs.lemmas.Bool.{or_parts}
use Rattle.std.proofs.lemmas.List.{length-append}
use Rattle.std.proofs.lemmas.Option.{same_Some, none-some}
use Rattle.std.proofs.Math.Nat.{max-zero, max-eq_left}
use Rattle.words.specs.declared.entry.Step.TheVariants.{Deliver}
use Rattle.flat.specs.Bytes.{put_at}
use Rattle.flat.proofs.Maps.{one_number, two_numbers, put_there, put_elsewhere}
use Rattle.network.specs.declared.net.Flight.{Flight}
use Rattle.network.specs.Flights.{AreInOrder, flight_at}
use Rattle.protocol.specs.Caches.{Geometry}
use Rattle.protocol.specs.Hart.{Hart}
use Rattle.protocol.specs.Messages.{Message, receiver_of, shown as shown_message}
use Rattle.machine.specs.Mail.{Mail, SendsOn, mail_of}
use Rattle.machine.specs.States.{State, hart_at, shown}
use Rattle.machine.specs.Serving.{Arrival, Arrives, ArriveAll}
use Rattle.schedule.specs.Moments.{Moment, moment}
use Rattle.schedule.specs.Runs.{TookTurns}
use Rattle.watch.specs.declared.figures.Sum.{Sum}
use Rattle.watch.specs.declared.figures.Sum.TheVariants.{Deliveries}
use Rattle.watch.specs.declared.kinds.Kind.{Kind}
use Rattle.watch.specs.Kinds.{Fresh, asked_by, asks_if, counts_asked, counts_if, counts_in, fresh_at, fresh_behind, fresh_in, goes_to, none_fresh, number_from, number_in, one_if}
use Rattle.watch.specs.Traffic.{in_flight, in_use, is_same, most, sum_of_message, total, was_sent}
use Rattle.watch.proofs.Sending.{counted_first, late_one, none_sent}
use Rattle.watch.proofs.Sent.{AreSent, IsBelow, StandsAfter, as_many_sent, left_below, left_in_order, left_is, left_of, one_left, sent_after}
use Rattle.watch.proofs.Tallying.{number_parts}

-- how many of some messages count as a sum
abbrev pub number_sent : Sum → List Message → ℕ
number_sent s [] = 0
number_sent s (m ∷ ms) = one_if (is_same s (sum_of_message m)) + number_sent s ms

-- how often some arrivals count as a sum: each as a delivery, and what it sends
abbrev pub number_arriving : Sum → List Arrival → ℕ
number_arriving s [] = 0
number_arriving s (a ∷ ds) = one_if (is_same s Deliveries) + number_sent s a.sent + number_arriving s ds

-- how many messages they send
abbrev pub all_sent : List Arrival → ℕ
all_sent [] = 0
all_sent (a ∷ ds) = length a.sent + all_sent ds

-- the most in flight behind one of them, where so many were before the first
abbrev pub tops : ℕ → List Arrival → ℕ
tops n [] = 0
tops n (a ∷ ds) = max (n - 1 + length a.sent) (tops (n - 1 + length a.sent) ds)

-- each goes to a hart
abbrev pub ToHarts : List Arrival → Type 0
ToHarts [] = ⊤
ToHarts (a ∷ ds) = IsSome (receiver_of a.message) × ToHarts ds

-- whether what goes there, if anywhere, goes to hart j
abbrev pub is_hart : Option ℕ → ℕ → Bool
is_hart None j = false
is_hart (Some i) j = i == j

abbrev pub goes : Arrival → ℕ → Bool
goes a j = is_hart (receiver_of a.message) j

-- whether one of them goes to hart j
abbrev pub hears : List Arrival → ℕ → Bool
hears [] j = false
hears (a ∷ ds) j = goes a j || hears ds j

-- none is a request
abbrev pub AskNothing : List Arrival → Type 0
AskNothing [] = ⊤
AskNothing (a ∷ ds) = (asked_by a.message ≡ None) × AskNothing ds

-- the entries count the same, whoever is fresh
abbrev pub IsPlainly : List Arrival → Type 0
IsPlainly [] = ⊤
IsPlainly (a ∷ ds) = ((fresh : Fresh) → counts_if fresh a.entry ≡ counts_if none_fresh a.entry) × IsPlainly ds

-- how often the entries count for hart h as this kind
abbrev pub entry_number : ℕ → Kind → List Arrival → ℕ
entry_number h k [] = 0
entry_number h k (a ∷ ds) = number_in h k (counts_if none_fresh a.entry) + entry_number h k ds

-- ---- messages that are sent

counted_both : {T : Type 0} (p : T → Bool) (xs ys : List T) → count_by p (xs ++ ys) ≡ count_by p xs + count_by p ys
counted_both p [] ys = omega arith
counted_both p (x ∷ xs) ys =
    let first : count_by p (x ∷ (xs ++ ys)) ≡ one_if (p x) + count_by p (xs ++ ys) = counted_first p x (xs ++ ys) in
    let alone : count_by p (x ∷ xs) ≡ one_if (p x) + count_by p xs = counted_first p x xs in
    let rest : count_by p (xs ++ ys) ≡ count_by p xs + count_by p ys = counted_both p xs ys in
    omega (arith, first, alone, rest)

-- each counts as itself
sums_sent : (before n : ℕ) (s : Sum) (ms : List Message) (fs : List Flight) → before ≤ n → AreSent n ms fs → count_by (was_sent before s) fs ≡ number_sent s ms
sums_sent before n s [] [] late are = refl
sums_sent before n s [] (f ∷ fs) late are = absurd are
sums_sent before n s (m ∷ ms) [] late are = absurd are
sums_sent before n s (m ∷ ms) (f ∷ fs) late (is, number, are) =
    let first : count_by (was_sent before s) (f ∷ fs) ≡ one_if (was_sent before s f) + count_by (was_sent before s) fs = counted_first (was_sent before s) f fs in
    let one : one_if (was_sent before s f) ≡ one_if (is_same s (sum_of_message m)) =
    late_one before s f (omega (arith, late, number)) ∙ ap (λ (x : Message). one_if (is_same s (sum_of_message x))) is in
    let rest : count_by (was_sent before s) fs ≡ number_sent s ms = sums_sent before (n + 1) s ms fs (omega (arith, late)) are in
    omega (arith, first, one, rest)

-- once the message with a number is taken, messages are sent: they alone are counted as sent then, they have the next numbers, and all are below the one after them
module _ (xs ys : List Flight) (number n next : ℕ) (ms : List Message) (order : AreInOrder xs) (order_too : AreInOrder ys) (below : IsBelow n (mail_of xs)) (few : n + length ms ≤ 18446744073709551615)
    (sends : SendsOn (put_at number None (mail_of xs)) n ms (mail_of ys) next) where
  stand : StandsAfter (left_of number xs) n ms ys next
  stand = sent_after ms (left_of number xs) ys n next (left_in_order number xs order) order_too (left_below n number xs order below) few
      (subst (λ (mail : Mail). SendsOn mail n ms (mail_of ys) next) (sym (left_is number xs order)) sends)

  pub sent_now : ((s : Sum) → count_by (was_sent n s) ys ≡ number_sent s ms) × (next ≡ n + length ms) × IsBelow next (mail_of ys)
  sent_now = (counted, stand.last, stand.below)
    where
      counted : (s : Sum) → count_by (was_sent n s) ys ≡ number_sent s ms
      counted s =
          let none : count_by (was_sent n s) (left_of number xs) ≡ 0 = none_sent n s (left_of number xs) (left_below n number xs order below) in
          let both : count_by (was_sent n s) (left_of number xs ++ stand.sent) ≡ count_by (was_sent n s) (left_of number xs) + count_by (was_sent n s) stand.sent = counted_both (was_sent n s) (left_of number xs) stand.sent in
          let same : count_by (was_sent n s) ys ≡ count_by (was_sent n s) (left_of number xs ++ stand.sent) = ap (λ (l : List Flight). count_by (was_sent n s) l) stand.all in
          let all : count_by (was_sent n s) stand.sent ≡ number_sent s ms = sums_sent n n s ms stand.sent (omega arith) stand.are in
          omega (arith, none, both, same, all)

  -- one is in flight less, and so many more
  pub flying_now : (f : Flight) → flight_at xs number ≡ Some f → length ys ≡ length xs - 1 + length ms
  flying_now f at =
      let gone : length (left_of number xs) + 1 ≡ length xs = one_left number xs f at in
      let more : length stand.sent ≡ length ms = as_many_sent n ms stand.sent stand.are in
      let all : length ys ≡ length (left_of number xs) + length stand.sent = ap (λ (l : List Flight). length l) stand.all ∙ length-append (left_of number xs) stand.sent in
      omega (arith, gone, more, all)

-- ---- what arrives

-- what is in flight, as the rows of the protocol speak of it
flight_of : (o : Option Flight) (m : Message) → option_map shown_message (option_map (λ (f : Flight). f.message) o) ≡ Some m → (f : Flight) × (o ≡ Some f) × (shown_message f.message ≡ m)
flight_of None m is = absurd (none-some m is)
flight_of (Some f) m is = (f, refl, same_Some (shown_message f.message) m is)

-- one hart gets a new value
pub put_if : (i j : ℕ) (f old : Fresh) → put_at i (f i) old j ≡ (if i == j then f j else old j)
put_if i j f old = by (i == j) refl
  where
    by : (b : Bool) → i == j ≡ b → put_at i (f i) old j ≡ (if b then f j else old j)
    by true is = ap (λ (k : ℕ). put_at k (f k) old j) (one_number i j is) ∙ put_there j (f j) old
    by false is = put_elsewhere i j (f i) old (λ same. two_numbers i j is (sym same))

goes_not : (o : Option ℕ) (j : ℕ) → is_hart o j ≡ false → o ≢ Some j
goes_not o j silent is = two_numbers j j (sym (ap (λ (x : Option ℕ). is_hart x j) is) ∙ silent) refl

-- a hart is fresh as it is behind the last that it hears
fresh_late : (b c old behind now late : Bool) → (c ≡ false → late ≡ now) → behind ≡ (if b then now else old) → (if c then late else behind) ≡ (if b || c then late else old)
fresh_late true true old behind now late same is = refl
fresh_late false true old behind now late same is = refl
fresh_late true false old behind now late same is = is ∙ sym (same refl)
fresh_late false false old behind now late same is = is

neither : {A : Type 0} (b : Bool) (x : A) → (if b then x else x) ≡ x
neither true x = refl
neither false x = refl

module _ (g : Geometry) where
  -- the moments of arrivals
  abbrev pub moments_of : (v : State) (ds : List Arrival) (w : State) → ArriveAll g v ds w → List Moment
  moments_of v [] w same = []
  moments_of v (a ∷ ds) w (u, first, rest) = moment v (Deliver first.number) a.entry u ∷ moments_of u ds w rest

  -- they are turns
  pub took : (v : State) (ds : List Arrival) (w : State) (all : ArriveAll g v ds w) (after : ℕ) → TookTurns g v after (moments_of v ds w all) w after
  took v [] w same after = (same, refl)
  took v (a ∷ ds) w (u, first, rest) after = (Deliver first.number, a.entry, u, (first.turn after).next, (first.turn after).made, refl, took u ds w rest after)

  pub as_many : (v : State) (ds : List Arrival) (w : State) (all : ArriveAll g v ds w) → length ds ≡ length (moments_of v ds w all)
  as_many v [] w same = refl
  as_many v (a ∷ ds) w (u, first, rest) = ap suc (as_many u ds w rest)

  -- the flight that arrives
  arrived : (v u : State) (a : Arrival) (first : Arrives g v a u) → (f : Flight) × (flight_at v.flights first.number ≡ Some f) × (shown_message f.message ≡ a.message)
  arrived v u a first = flight_of (flight_at v.flights first.number) a.message first.here

  -- ---- sums

  order_then : (v u : State) (a : Arrival) → Arrives g v a u → AreInOrder u.flights
  order_then v u a first = (first.turn 0).made.order

  sent_by : (v u : State) (a : Arrival) (first : Arrives g v a u) → AreInOrder v.flights → IsBelow v.sent (mail_of v.flights) → v.sent + length a.sent ≤ 18446744073709551615
      → ((s : Sum) → count_by (was_sent v.sent s) u.flights ≡ number_sent s a.sent) × (u.sent ≡ v.sent + length a.sent) × IsBelow u.sent (mail_of u.flights)
  sent_by v u a first order below few = sent_now v.flights u.flights first.number v.sent u.sent a.sent order (order_then v u a first) below few first.sends

  pub totals : (v : State) (ds : List Arrival) (w : State) (all : ArriveAll g v ds w) → AreInOrder v.flights → IsBelow v.sent (mail_of v.flights)
      → v.sent + all_sent ds ≤ 18446744073709551615 → (s : Sum) → total s (moments_of v ds w all) ≡ number_arriving s ds
  totals v [] w same order below few s = refl
  totals v (a ∷ ds) w (u, first, rest) order below few s =
      let now = sent_by v u a first order below (omega (arith, few)) in
      let next : u.sent ≡ v.sent + length a.sent = now.1 in
      let here : count_by (was_sent v.sent s) u.flights ≡ number_sent s a.sent = now.0 s in
      let later : total s (moments_of u ds w rest) ≡ number_arriving s ds = totals u ds w rest (order_then v u a first) now.2 (omega (arith, few, next)) s in
      λ i. (one_if (is_same s Deliveries) + here i) + later i

  -- the numbers of the messages that they send are the next
  pub numbered : (v : State) (ds : List Arrival) (w : State) → ArriveAll g v ds w → AreInOrder v.flights → IsBelow v.sent (mail_of v.flights)
      → v.sent + all_sent ds ≤ 18446744073709551615 → (w.sent ≡ v.sent + all_sent ds) × IsBelow w.sent (mail_of w.flights)
  numbered v [] w same order below few =
      let none : w.sent ≡ v.sent = ap (λ (m : State). m.sent) same in
      (omega (arith, none), subst (λ (m : State). IsBelow m.sent (mail_of m.flights)) (sym same) below)
  numbered v (a ∷ ds) w (u, first, rest) order below few =
      let now = sent_by v u a first order below (omega (arith, few)) in
      let next : u.sent ≡ v.sent + length a.sent = now.1 in
      let later = numbered u ds w rest (order_then v u a first) now.2 (omega (arith, few, next)) in
      let last : w.sent ≡ u.sent + all_sent ds = later.0 in
      (omega (arith, next, last), later.1)

  -- ---- how many are in flight

  pub levels : (v : State) (ds : List Arrival) (w : State) (all : ArriveAll g v ds w) → AreInOrder v.flights → IsBelow v.sent (mail_of v.flights)
      → v.sent + all_sent ds ≤ 18446744073709551615 → most in_flight (moments_of v ds w all) ≡ tops (length v.flights) ds
  levels v [] w same order below few = refl
  levels v (a ∷ ds) w (u, first, rest) order below few =
      let f = arrived v u a first in
      let now = sent_by v u a first order below (omega (arith, few)) in
      let next : u.sent ≡ v.sent + length a.sent = now.1 in
      let here : length u.flights ≡ length v.flights - 1 + length a.sent = flying_now v.flights u.flights first.number v.sent u.sent a.sent order (order_then v u a first) below (omega (arith, few)) first.sends f.0 f.1 in
      let later : most in_flight (moments_of u ds w rest) ≡ tops (length u.flights) ds = levels u ds w rest (order_then v u a first) now.2 (omega (arith, few, next)) in
      (λ i. max (here i) (later i)) ∙ ap (λ (n : ℕ). max (length v.flights - 1 + length a.sent) (tops n ds)) here

  -- ---- the directory

  pub directory_stays : (v : State) (ds : List Arrival) (w : State) → ArriveAll g v ds w → ToHarts ds → w.directory ≡ v.directory
  directory_stays v [] w same to = ap (λ (m : State). m.directory) same
  directory_stays v (a ∷ ds) w (u, first, rest) (here, to) = directory_stays u ds w rest to ∙ first.directory here

  use_stays : (v : State) (ds : List Arrival) (w : State) (all : ArriveAll g v ds w) → ToHarts ds → max (length v.directory.kept) (most in_use (moments_of v ds w all)) ≡ length v.directory.kept
  use_stays v [] w same to = max-zero (length v.directory.kept)
  use_stays v (a ∷ ds) w (u, first, rest) (here, to) =
      let n : ℕ = length v.directory.kept in
      let same : length u.directory.kept ≡ n = λ i. length (first.directory here i).kept in
      ap (λ (k : ℕ). max n k) (use_stays u ds w rest to ∙ same) ∙ max-eq_left {n = n} {m = n} (omega arith)

  pub uses : (v : State) (a : Arrival) (ds : List Arrival) (w : State) (all : ArriveAll g v (a ∷ ds) w) → ToHarts (a ∷ ds) → most in_use (moments_of v (a ∷ ds) w all) ≡ length v.directory.kept
  uses v a ds w (u, first, rest) (here, to) = use_stays u ds w rest to ∙ (λ i. length (first.directory here i).kept)

  -- ---- which harts are fresh

  -- a hart that hears nothing stays as it is
  pub unheard : (v : State) (ds : List Arrival) (w : State) → ArriveAll g v ds w → (j : ℕ) → hears ds j ≡ false → hart_at g.sets w.seats j ≡ hart_at g.sets v.seats j
  unheard v [] w same j silent = ap (λ (m : State). hart_at g.sets m.seats j) same
  unheard v (a ∷ ds) w (u, first, rest) j silent =
      let parts = or_parts (goes a j) (hears ds j) silent in
      unheard u ds w rest j parts.1 ∙ first.others j (goes_not (receiver_of a.message) j parts.0)

  fresh_now : (v u : State) (a : Arrival) (first : Arrives g v a u) (fresh : Fresh) (j : ℕ)
      → fresh_behind g.sets fresh (moment v (Deliver first.number) a.entry u) j ≡ (if goes a j then (hart_at g.sets u.seats j).fresh else fresh j)
  fresh_now v u a first fresh j =
      let f = arrived v u a first in
      let to : goes_to (flight_at v.flights first.number) ≡ receiver_of a.message = ap goes_to f.1 ∙ ap receiver_of f.2 in
      ap (λ (o : Option ℕ). fresh_at (shown g.sets u) o fresh j) to ∙ by (receiver_of a.message)
    where
      by : (o : Option ℕ) → fresh_at (shown g.sets u) o fresh j ≡ (if is_hart o j then (hart_at g.sets u.seats j).fresh else fresh j)
      by None = refl
      by (Some i) = put_if i j (λ k. (hart_at g.sets u.seats k).fresh) fresh

  pub freshened : (v : State) (ds : List Arrival) (w : State) (all : ArriveAll g v ds w) (fresh : Fresh) (j : ℕ)
      → fresh_in g.sets fresh (moments_of v ds w all) j ≡ (if hears ds j then (hart_at g.sets w.seats j).fresh else fresh j)
  freshened v [] w same fresh j = refl
  freshened v (a ∷ ds) w (u, first, rest) fresh j =
      let behind : Fresh = fresh_behind g.sets fresh (moment v (Deliver first.number) a.entry u) in
      freshened u ds w rest behind j
      ∙ fresh_late (goes a j) (hears ds j) (fresh j) (behind j) (hart_at g.sets u.seats j).fresh (hart_at g.sets w.seats j).fresh
      (λ silent. ap (λ (h : Hart). h.fresh) (unheard u ds w rest j silent)) (fresh_now v u a first fresh j)

  -- ---- what harts count

  pub numbers : (v : State) (ds : List Arrival) (w : State) (all : ArriveAll g v ds w) → AskNothing ds → IsPlainly ds → (h : ℕ) (k : Kind) (fresh : Fresh)
      → number_from g.sets h k fresh (moments_of v ds w all) ≡ entry_number h k ds
  numbers v [] w same asks plainly h k fresh = refl
  numbers v (a ∷ ds) w (u, first, rest) (asks, more) (plainly, others) h k fresh =
      let f = arrived v u a first in
      let m : Moment = moment v (Deliver first.number) a.entry u in
      let ask : asks_if m.arrival ≡ None = ap asks_if f.1 ∙ ap asked_by f.2 ∙ asks in
      let nothing : counts_asked (shown g.sets u) v.sent u.sent (asks_if m.arrival) (Deliver first.number) ≡ [] =
      ap (λ (o : Option (ℕ × ℕ)). counts_asked (shown g.sets u) v.sent u.sent o (Deliver first.number)) ask ∙ neither (nat_lt v.sent u.sent) [] in
      let parts : number_in h k (counts_in g.sets fresh m)
      ≡ number_in h k (counts_if fresh a.entry) + number_in h k (counts_asked (shown g.sets u) v.sent u.sent (asks_if m.arrival) (Deliver first.number)) = number_parts g.sets h k fresh m in
      let none : number_in h k (counts_asked (shown g.sets u) v.sent u.sent (asks_if m.arrival) (Deliver first.number)) ≡ 0 = ap (number_in h k) nothing in
      let alike : number_in h k (counts_if fresh a.entry) ≡ number_in h k (counts_if none_fresh a.entry) = ap (number_in h k) (plainly fresh) in
      let here : number_in h k (counts_in g.sets fresh m) ≡ number_in h k (counts_if none_fresh a.entry) = omega (arith, parts, none, alike) in
      let later : number_from g.sets h k (fresh_behind g.sets fresh m) (moments_of u ds w rest) ≡ entry_number h k ds = numbers u ds w rest more others h k (fresh_behind g.sets fresh m) in
      λ i. here i + later i

-- ---- some behind others

pub sent_both : (s : Sum) (ms ns : List Message) → number_sent s (ms ++ ns) ≡ number_sent s ms + number_sent s ns
sent_both s [] ns = omega arith
sent_both s (m ∷ ms) ns =
    let rest : number_sent s (ms ++ ns) ≡ number_sent s ms + number_sent s ns = sent_both s ms ns in
    omega (arith, rest)

pub arriving_both : (s : Sum) (ds bs : List Arrival) → number_arriving s (ds ++ bs) ≡ number_arriving s ds + number_arriving s bs
arriving_both s [] bs = omega arith
arriving_both s (a ∷ ds) bs =
    let rest : number_arriving s (ds ++ bs) ≡ number_arriving s ds + number_arriving s bs = arriving_both s ds bs in
    omega (arith, rest)

pub all_sent_both : (ds bs : List Arrival) → all_sent (ds ++ bs) ≡ all_sent ds + all_sent bs
all_sent_both [] bs = omega arith
all_sent_both (a ∷ ds) bs =
    let rest : all_sent (ds ++ bs) ≡ all_sent ds + all_sent bs = all_sent_both ds bs in
    omega (arith, rest)

pub entries_both : (h : ℕ) (k : Kind) (ds bs : List Arrival) → entry_number h k (ds ++ bs) ≡ entry_number h k ds + entry_number h k bs
entries_both h k [] bs = omega arith
entries_both h k (a ∷ ds) bs =
    let rest : entry_number h k (ds ++ bs) ≡ entry_number h k ds + entry_number h k bs = entries_both h k ds bs in
    omega (arith, rest)

either : (b c d : Bool) → (b || (c || d)) ≡ ((b || c) || d)
either true c d = refl
either false c d = refl

pub hears_both : (ds bs : List Arrival) (j : ℕ) → hears (ds ++ bs) j ≡ (hears ds j || hears bs j)
hears_both [] bs j = refl
hears_both (a ∷ ds) bs j = ap (λ (b : Bool). goes a j || b) (hears_both ds bs j) ∙ either (goes a j) (hears ds j) (hears bs j)

pub to_harts_both : (ds bs : List Arrival) → ToHarts ds → ToHarts bs → ToHarts (ds ++ bs)
to_harts_both [] bs first later = later
to_harts_both (a ∷ ds) bs (here, first) later = (here, to_harts_both ds bs first later)

pub ask_nothing_both : (ds bs : List Arrival) → AskNothing ds → AskNothing bs → AskNothing (ds ++ bs)
ask_nothing_both [] bs first later = later
ask_nothing_both (a ∷ ds) bs (here, first) later = (here, ask_nothing_both ds bs first later)

pub plainly_both : (ds bs : List Arrival) → IsPlainly ds → IsPlainly bs → IsPlainly (ds ++ bs)
plainly_both [] bs first later = later
plainly_both (a ∷ ds) bs (here, first) later = (here, plainly_both ds bs first later)
