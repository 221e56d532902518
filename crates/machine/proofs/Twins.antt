-- A step has one outcome: it leads from twins to twins.
use Rattle.std.proofs.Common.{◌≡◌, ◌<◌, ◌+◌, ◌-◌, ◌*◌, ◌%◌, ◌∙◌, ℕ, true≢false, Option, Some, None, List, [], ◌∷◌, length, map, inl, inr, arith, refl, sym, ap, subst}
use Rattle.std.specs.Prelude.{slice_get, is_some, IsSome}
use Rattle.std.specs.Option.{option_map, option_map_or, option_and_then}
use Rattle.std.proofs.Math.Path.{fun_ext}
use Rattle.std.proofs.lemmas.Bool.{cases_lt}
use Rattle.std.proofs.lemmas.Option.{same_Some, slice_get_within}
use Rattle.words.specs.Limits.{log_bytes}
use Rattle.words.specs.declared.entry.Entry.{Entry}
use Rattle.words.specs.declared.entry.Step.{Step}
use Rattle.words.specs.declared.entry.Step.TheVariants.{Core, Evict, Deliver}
use Rattle.flat.specs.Bytes.{put_at}
use Rattle.flat.specs.State.{idle}
use Rattle.network.specs.declared.net.Flight.{Flight}
use Rattle.network.specs.Flights.{number_after, IsNextNumber}
use Rattle.network.proofs.OneOrder.{one_order}
use Rattle.protocol.specs.Caches.{Geometry}
use Rattle.protocol.specs.Messages.{Message, shown as shown_message}
use Rattle.protocol.specs.Hart.{Hart}
use Rattle.protocol.specs.Start.{first_hart}
use Rattle.protocol.specs.Network.{Network}
use Rattle.protocol.specs.Machine.{Machine, Change, change_of}
use Rattle.protocol.proofs.Settings.{setting_stays}
use Rattle.directory.specs.Entries.{shown_entry}
use Rattle.directory.proofs.OneKept.{one_kept}
use Rattle.undo_log.specs.Value.{Log}
use Rattle.undo_log.specs.Log.{empty_log}
use Rattle.cache.specs.Ways.{victim_in}
use Rattle.cache.specs.Sets.{IsSound, ways_at, victim_at}
use Rattle.hart.specs.Places.{IsLaidOut, AreLaidAlike}
use Rattle.hart.specs.Rows.{block_of, victim_of}
use Rattle.hart.specs.Staying.{AreLoggedAlike}
use Rattle.hart.specs.Shown.{shown_hart}
use Rattle.hart.proofs.Bytes.{logged_alike_on}
use Rattle.hart.proofs.Layouts.{laid_alike_on, laid_sound, laid_empty}
use Rattle.machine.specs.Mail.{Mail, SendsOn, IsLeft, mail_of, without_numbers}
use Rattle.machine.specs.Making.{MakesStep, change_by, victims}
use Rattle.machine.specs.States.{Seat, State, shown, hart_at}
use Rattle.machine.specs.Twins.{AreTwins}
use Rattle.machine.specs.Unused.{IsUnused}
use Rattle.machine.proofs.Made.{steps_of}
use Rattle.machine.proofs.OneMessage.{one_flight}
use Rattle.machine.proofs.Places.{none_past}

abbrev message_of : Option Flight → Option Message
message_of o = option_map shown_message (option_map (λ (f : Flight). f.message) o)

-- What is left

-- where two are left of one mail, with as many messages, they are one
left_at : (before : Option Flight) (a b : Option Flight) → ((f : Flight) → a ≡ Some f → before ≡ Some f) → ((f : Flight) → b ≡ Some f → before ≡ Some f) → message_of a ≡ message_of b → a ≡ b
left_at before None None one other same = refl
left_at before None (Some g) one other same = absurd (cc)
left_at before (Some f) None one other same = absurd (cc)
left_at before (Some f) (Some g) one other same = sym (one f refl) ∙ other g refl

left_once : (before : Mail) (net : Network) (a b : Mail) → IsLeft before net a → IsLeft before net b → a ≡ b
left_once before net a b one other = fun_ext (λ number. left_at (before number) (a number) (b number) (one.stays number) (other.stays number) (ap (λ (n : Network). n number) (one.messages ∙ sym other.messages)))

-- What is sent

nothing : (o : Option Flight) → o ≡ None → IsSome o → ⊥
nothing o none some = true≢false (sym some ∙ ap is_some none)

one_number : (mail : Mail) (n i j : ℕ) → IsNextNumber mail n i → IsNextNumber mail n j → i ≡ j
one_number mail n i j one other = elim (cases_lt i j) [
  | inl below ↦ absurd (nothing (mail j) other.free (one.greatest j below other.below))
  | inr le ↦ elim (cases_lt j i) [
    | inl below ↦ absurd (nothing (mail i) one.free (other.greatest i below one.below))
    | inr ge ↦ omega (arith, le, ge)
  ]
]

sent_once : (ms : List Message) (a x y : Mail) (n l k : ℕ) → SendsOn a n ms x l → SendsOn a n ms y k → (x ≡ y) × (l ≡ k)
sent_once [] a x y n l k (at, is) (there, also) = (at ∙ sym there, is ∙ sym also)
sent_once (m ∷ ms) a x y n l k (i, f, free, told, number, rest) (j, h, free_too, told_too, number_too, rest_too) =
    let numbers : i ≡ j = one_number a n i j free free_too in
    let flights : f ≡ h = one_flight f h (number ∙ (numbers ∙ sym number_too)) (told ∙ sym told_too) in
    let mails : put_at j (Some h) a ≡ put_at i (Some f) a = λ t. put_at (sym numbers t) (Some (sym flights t)) a in
    sent_once ms (put_at i (Some f) a) x y (number_after n) l k rest (subst (λ mail. SendsOn mail (number_after n) ms y k) mails rest_too)

-- Seats

seat_there : (seats : List Seat) (i : ℕ) → i < length seats → (s : Seat) × (slice_get seats i ≡ Some s)
seat_there seats i below = go (slice_get seats i) refl
  where
    go : (o : Option Seat) → slice_get seats i ≡ o → (s : Seat) × (slice_get seats i ≡ Some s)
    go None is = absurd (omega (arith, below, none_past seats i is))
    go (Some s) is = (s, is)

hart_is : (sets i : ℕ) (seats : List Seat) (s : Seat) → slice_get seats i ≡ Some s → hart_at sets seats i ≡ shown_hart sets s.output s.hart
hart_is sets i seats s at = ap (λ o. option_map_or (λ (x : Seat). shown_hart sets x.output x.hart) o (first_hart idle)) at

module _ (g : Geometry) (v w : State) (twins : AreTwins g v w) where
  count : length v.seats ≡ length w.seats
  count = ap (λ (m : Machine). m.setting.count) twins.machine

  -- the same line makes way
  victim_is : (i b : ℕ) (o p : Option Seat) → slice_get v.seats i ≡ o → slice_get w.seats i ≡ p
      → option_and_then (λ (s : Seat). victim_of g.sets s.hart.cache b) o ≡ option_and_then (λ (s : Seat). victim_of g.sets s.hart.cache b) p
  unfolding victim_at
  victim_is i b None None at is = refl
  victim_is i b None (Some t) at is = absurd (omega (arith, none_past v.seats i at, slice_get_within w.seats i t is, count))
  victim_is i b (Some s) None at is = absurd (omega (arith, none_past w.seats i is, slice_get_within v.seats i s at, count))
  victim_is i b (Some s) (Some t) at is = ap (λ ways. block_of (victim_in ways)) ((twins.caches i s t at is).ways (b % g.sets))

  pub victims_are : (step : Step) → victims g.sets v step ≡ victims g.sets w step
  victims_are (Core i) = fun_ext (λ b. victim_is i b (slice_get v.seats i) (slice_get w.seats i) refl refl)
  victims_are (Evict i c) = refl
  victims_are (Deliver number) = refl

  change_is : (step : Step) → change_by g.sets v step ≡ change_by g.sets w step
  change_is step = λ k. change_of (victims_are step k) step (twins.machine k)

  module _ (step : Step) (d e : Option Entry) (u x : State) (one : MakesStep g v step d u) (other : MakesStep g w step e x) where
    same : change_by g.sets v step ≡ change_by g.sets w step
    same = change_is step

    pub one_entry : d ≡ e
    one_entry = one.made.entry ∙ (ap (λ (c : Change). c.entry) same ∙ sym other.made.entry)

    left_is : one.made.left ≡ other.made.left
    left_is = left_once (mail_of w.flights) (change_by g.sets w step).machine.net one.made.left other.made.left
        (subst (λ mail. IsLeft mail (change_by g.sets w step).machine.net one.made.left) (ap mail_of twins.flights)
        (subst (λ (c : Change). IsLeft (mail_of v.flights) c.machine.net one.made.left) same one.made.leaves))
        other.made.leaves

    sent_is : (mail_of u.flights ≡ mail_of x.flights) × (u.sent ≡ x.sent)
    sent_is = sent_once (change_by g.sets w step).sent other.made.left (mail_of u.flights) (mail_of x.flights) w.sent u.sent x.sent
        (subst (λ n. SendsOn other.made.left n (change_by g.sets w step).sent (mail_of u.flights) u.sent) twins.sent
        (subst (λ (c : Change). SendsOn other.made.left v.sent c.sent (mail_of u.flights) u.sent) same
        (subst (λ left. SendsOn left v.sent (change_by g.sets v step).sent (mail_of u.flights) u.sent) left_is one.made.sends)))
        other.made.sends

    machine_is : shown g.sets u ≡ shown g.sets x
    machine_is = one.made.machine ∙ ((λ k. record ((same k).machine) { net = without_numbers (sent_is.0 k) }) ∙ sym other.made.machine)

    -- as many seats as before
    as_many : length u.seats ≡ length v.seats
    as_many = ap (λ s. s.count) (setting_stays g (shown g.sets v) (shown g.sets u) step d (steps_of g v step d u one))

    -- what was there before of a seat
    was : (i : ℕ) (s : Seat) → slice_get u.seats i ≡ Some s → (p : Seat) × (slice_get v.seats i ≡ Some p) × ((q : Seat) × (slice_get w.seats i ≡ Some q))
    was i s at =
        let below : i < length u.seats = slice_get_within u.seats i s at in
        let p = seat_there v.seats i (omega (arith, below, as_many)) in
        (p.0, p.1, seat_there w.seats i (omega (arith, below, as_many, count)))

    -- two seats of twins are one hart of the protocol
    one_hart : (a b : State) → shown g.sets a ≡ shown g.sets b → (i : ℕ) (s t : Seat) → slice_get a.seats i ≡ Some s → slice_get b.seats i ≡ Some t
        → shown_hart g.sets s.output s.hart ≡ shown_hart g.sets t.output t.hart
    one_hart a b is i s t at at_too = sym (hart_is g.sets i a.seats s at) ∙ (ap (λ (m : Machine). m.harts i) is ∙ hart_is g.sets i b.seats t at_too)

    caches_are : (i : ℕ) (s t : Seat) → slice_get u.seats i ≡ Some s → slice_get x.seats i ≡ Some t → AreLaidAlike g.sets s.hart.cache t.hart.cache
    caches_are i s t at is =
        let b = was i s at in
        let p : Seat = b.0 in
        let q : Seat = b.2.0 in
        laid_alike_on g.sets p.hart.cache q.hart.cache s.hart.cache t.hart.cache (twins.caches i p q b.1 b.2.1) (one.ways i p s b.1 at) (other.ways i q t b.2.1 is)
        (λ c. ap (λ (h : Hart). h.lines c) (one_hart u x machine_is i s t at is))

    logs_are : (i : ℕ) (s t : Seat) → slice_get u.seats i ≡ Some s → slice_get x.seats i ≡ Some t → AreLoggedAlike s.hart.tx.log t.hart.tx.log
    logs_are i s t at is =
        let b = was i s at in
        let p : Seat = b.0 in
        let q : Seat = b.2.0 in
        logged_alike_on p.hart.tx q.hart.tx s.hart.tx t.hart.tx (twins.logs i p q b.1 b.2.1) (one.logs i p s b.1 at) (other.logs i q t b.2.1 is)
        (ap (λ (h : Hart). h.tx) (one_hart v w twins.machine i p q b.1 b.2.1))
        (ap (λ (h : Hart). h.tx) (one_hart u x machine_is i s t at is))

    pub twins_on : AreTwins g u x
    twins_on = record {
      machine = machine_is;
      flights = one_order u.flights x.flights one.order other.order (λ number. ap (λ (mail : Mail). mail number) sent_is.0);
      sent = sent_is.1;
      kept = one_kept u.directory x.directory (ap (λ (m : Machine). m.entries) machine_is) one.kept other.kept;
      caches = caches_are;
      logs = logs_are;
    }

-- machines of which no step was made
pub twins_first : (g : Geometry) (v w : State) → shown g.sets v ≡ shown g.sets w → IsUnused g v → IsUnused g w → AreTwins g v w
twins_first g v w same one other = record {
  machine = same;
  flights = one.flights ∙ sym other.flights;
  sent = one.sent ∙ sym other.sent;
  kept = ap (map (λ e. (e.0, shown_entry e.1))) (one.kept ∙ sym other.kept);
  caches = λ i s t at is. record {
    laid = subst (IsLaidOut g.sets) (sym (one.caches i s at)) (laid_empty g.sets g.sets g.ways);
    ways = λ set. ap (λ cache. ways_at cache set) (one.caches i s at ∙ sym (other.caches i t is));
  };
  logs = λ i s t at is.
      let log : s.hart.tx.log ≡ t.hart.tx.log = one.logs i s at ∙ (ap (λ (m : Machine). empty_log (m.setting.size - log_bytes * (i + 1))) same ∙ sym (other.logs i t is)) in
      record { base = ap (λ (l : Log). l.base) log; bytes = ap (λ (l : Log). l.bytes) log };
}

-- a machine whose caches keep what caches keep is its own twin
pub own_twin : (g : Geometry) (v : State) → ((i : ℕ) (s : Seat) → slice_get v.seats i ≡ Some s → IsSound g.sets g.ways s.hart.cache) → AreTwins g v v
own_twin g v sound = record {
  machine = refl;
  flights = refl;
  sent = refl;
  kept = refl;
  caches = λ i s t at is. record {
    laid = laid_sound g.sets g.ways s.hart.cache (sound i s at);
    ways = λ set. ap (λ (x : Seat). ways_at x.hart.cache set) (same_Some s t (sym at ∙ is));
  };
  logs = λ i s t at is.
      let seat : s ≡ t = same_Some s t (sym at ∙ is) in
      record { base = ap (λ (x : Seat). x.hart.tx.log.base) seat; bytes = ap (λ (x : Seat). x.hart.tx.log.bytes) seat };
}
