-- A step of a hart's core behind words, where nothing was in flight: it is counted, and what it asked for, and how that is served.
use Rattle.std.proofs.Common.{◌≡◌, ◌≢◌, ◌<◌, ◌+◌, ◌*◌, ◌∙◌, ℕ, Bool, true, false, List, [], ◌∷◌, length, Option, Some, None, inl, inr, refl, sym, ap, subst, subst₂, arith, true≢false}
use Rattle.std.specs.Prelude.{◌==◌, ◌||◌, ◌^◌, count_by, if◌then◌else◌, is_none, is_some, max}
use Rattle.std.specs.Option.{option_map}
use Rattle.std.proofs.lemmas.Bool.{cases_eq, eq-eqb, lt-ltb}
use Rattle.std.proofs.lemmas.Option.{none-some, same_Some}
use Rattle.std.proofs.Math.Nat.{max-zero}
use Rattle.words.specs.Harts.{names}
use Rattle.words.specs.Limits.{most_harts}
use Rattle.words.specs.declared.entry.Entry.{Entry}
use Rattle.words.specs.declared.entry.Step.TheVariants.{Core}
use Rattle.flat.specs.Bytes.{put_at}
use Rattle.flat.proofs.Maps.{put_elsewhere, put_there}
use Rattle.hart.specs.declared.reply.ForwardAnswer.{ForwardAnswer}
use Rattle.network.specs.Flights.{AreNumbered, flight_at}
use Rattle.network.specs.declared.net.Flight.{Flight}
use Rattle.protocol.specs.Caches.{Geometry}
use Rattle.protocol.specs.Directory.{Busy, Served, unless_busy}
use Rattle.protocol.specs.Hart.{Request}
use Rattle.protocol.specs.Machine.{Machine}
use Rattle.protocol.specs.Messages.{Get, shown as shown_message}
use Rattle.machine.specs.Making.{MakesStep}
use Rattle.machine.specs.Serving.{HearsReplies, IsServed}
use Rattle.machine.specs.States.{State, hart_at, shown}
use Rattle.machine.specs.Turns.{IsNextTurn, IsOldestFree, IsQuiescent, is_held}
use Rattle.machine.specs.declared.serving.Service.{Service}
use Rattle.schedule.specs.Moments.{Moment, moment}
use Rattle.schedule.specs.declared.choices.Sort.TheVariants as sort
use Rattle.watch.specs.declared.counting.Tally.{Tally}
use Rattle.watch.specs.declared.figures.Sum.{Sum}
use Rattle.watch.specs.declared.figures.Sum.TheVariants.{Cores, Sent}
use Rattle.watch.specs.declared.kinds.Kind.{Kind}
use Rattle.watch.specs.Kinds.{Grows, asked_by, count_at, counts_asked, counts_request, fresh_behind, held_behind, held_by, kind_asked, number_in, one_if}
use Rattle.watch.specs.Runs.{AreFree, MakesCounted, CountsEntry, HasAsked, HasStepped, IsFree, IsStale, NotesServed, ServesCounted, TakesCounted}
use Rattle.watch.specs.Traffic.{Rises, capped, in_flight, in_use, is_same, number_at, served_as, sum_at, was_sent}
use Rattle.watch.proofs.CoreAsks.{GetIsSent, none_sent_quietly, others_stay, quiet_frees, runs, still_stale, told_frees}
use Rattle.watch.proofs.Counted.{both_counted, turn_counted}
use Rattle.watch.proofs.Freed.{none_behind, service_frees, step_frees}
use Rattle.watch.proofs.Freshness.{named_alone}
use Rattle.watch.proofs.Plain.{nothing_asked, nothing_counted, nothing_flies, stays_stale}
use Rattle.watch.proofs.Sending.{empty_is}
use Rattle.watch.proofs.Services.{served_counted}
use Rattle.watch.proofs.Tallying.{no_more, one_counted}

-- ---- the step

module _ (g : Geometry) (v w : State) (after i : ℕ) (t mid : Tally) (has : HasStepped g v after i w t mid) where
  abbrev m : Moment
  m = moment v (Core i) has.entry w

  -- none is fresh by the tally
  pub stale_now : (j : ℕ) → names mid.fresh j ≡ false
  stale_now j = ap (λ (x : Tally). names x.fresh j) has.heard.rest ∙ has.stale j

  -- and so it is behind the step
  fresh_still : (set : ℕ) → ((j : ℕ) → names set j ≡ names mid.fresh j) → (j : ℕ) → names set j ≡ fresh_behind g.sets (names mid.fresh) m j
  fresh_still set same j = same j ∙ sym (stays_stale (names mid.fresh) i (stale_now i) j)

  -- it is a turn, and is counted
  pub step_counted : (u : Tally) → ((h : ℕ) (k : Kind) → Grows (count_at mid.harts h k) (number_in h k (counts_asked (shown g.sets w) v.sent w.sent None (Core i))) (count_at u.harts h k))
      → ((j : ℕ) → names u.fresh j ≡ names mid.fresh j) → ((s : Sum) → Rises (sum_at mid.machine s) (number_at s m) (sum_at u.machine s))
      → u.machine.most_in_flight ≡ max mid.machine.most_in_flight (in_flight m) → u.machine.most_in_use ≡ max mid.machine.most_in_use (in_use m) → TakesCounted g v after 1 w i t u
  step_counted u asked fresh sums flying using =
      turn_counted g v w after (Core i) t u has.turn.next (has.entry, has.turn.made, one_counted g.sets m t mid u has.heard asked (fresh_still u.fresh fresh) sums flying using)

  -- where nothing is in flight behind it, all harts are free, and it is quiescent
  pub all_free_quietly : length w.flights ≡ 0 → AreFree (shown g.sets w)
  all_free_quietly quiet = step_frees g v w i has.entry has.turn.made (quiet_frees g v w i has.entry has.turn.made (empty_is w.flights quiet) (has.free i)) has.free

  -- and it asked for nothing
  pub quiet_counted : (u : Tally) → IsQuiescent g.sets w → u.harts ≡ mid.harts → u.fresh ≡ mid.fresh → ((s : Sum) → sum_at u.machine s ≡ capped (sum_at mid.machine s + 1 * one_if (is_same s Cores)))
      → u.machine.most_in_flight ≡ mid.machine.most_in_flight → u.machine.most_in_use ≡ max mid.machine.most_in_use (length w.directory.kept) → TakesCounted g v after 1 w i t u
  quiet_counted u quiescent same fresh sums flying using =
      let sent : w.sent ≡ v.sent = none_sent_quietly g v w i has.entry has.turn.made quiescent.quiet in
      let none : counts_asked (shown g.sets w) v.sent w.sent None (Core i) ≡ [] = nothing_asked (shown g.sets w) v.sent w.sent None (Core i) sent in
      step_counted u
      (λ h k. subst₂ (λ (l : List (ℕ × Kind)) (x : Tally). Grows (count_at mid.harts h k) (number_in h k l) (count_at x.harts h k)) (sym none) (λ j. record mid { harts = sym same j }) (no_more (count_at mid.harts h k)))
      (λ j. ap (λ (set : ℕ). names set j) fresh)
      (λ s low.
      let nothing : count_by (was_sent v.sent s) w.flights ≡ 0 = nothing_counted (was_sent v.sent s) w quiescent.quiet in
      let number : number_at s m ≡ 1 * one_if (is_same s Cores) = omega (arith, nothing) in
      sums s ∙ ap (λ (n : ℕ). capped (sum_at mid.machine s + n)) (sym number))
      (flying ∙ sym (max-zero mid.machine.most_in_flight) ∙ ap (λ (n : ℕ). max mid.machine.most_in_flight n) (sym (nothing_flies w quiescent.quiet)))
      using

  -- where the hart has asked for a block behind it, the request counts, and as held, if it is
  pub asked_counted : (u : Tally) (r : Request) → (hart_at g.sets w.seats i).request ≡ Some r → v.sent < w.sent → GetIsSent g.sets v i r w
      → ((h : ℕ) (k : Kind) → Grows (count_at mid.harts h k) (number_in h k ((i, kind_asked r.kind (is_some ((hart_at g.sets w.seats i).lines r.block))) ∷ held_by i ((shown g.sets w).entries r.block).busy)) (count_at u.harts h k))
      → ((j : ℕ) → names u.fresh j ≡ names mid.fresh j) → ((s : Sum) → sum_at u.machine s ≡ capped (sum_at mid.machine s + (one_if (is_same s Cores) + one_if (is_same s (Sent sort.Get)))))
      → u.machine.most_in_flight ≡ max mid.machine.most_in_flight 1 → u.machine.most_in_use ≡ max mid.machine.most_in_use (length w.directory.kept) → TakesCounted g v after 1 w i t u
  asked_counted u r out more get harts fresh sums flying using =
      let asks : counts_asked (shown g.sets w) v.sent w.sent None (Core i) ≡ (i, kind_asked r.kind (is_some ((hart_at g.sets w.seats i).lines r.block))) ∷ held_by i ((shown g.sets w).entries r.block).busy =
      ap (λ (b : Bool). if b then counts_request (shown g.sets w) i (hart_at g.sets w.seats i).request else []) (lt-ltb v.sent w.sent more) ∙ ap (counts_request (shown g.sets w) i) out in
      step_counted u (λ h k. subst (λ (l : List (ℕ × Kind)). Grows (count_at mid.harts h k) (number_in h k l) (count_at u.harts h k)) (sym asks) (harts h k)) fresh
      (λ s low. sums s ∙ ap (λ (n : ℕ). capped (sum_at mid.machine s + (one_if (is_same s Cores) + n))) (sym (get.sums more s)))
      (flying ∙ ap (λ (n : ℕ). max mid.machine.most_in_flight n) (sym get.flying))
      using

  -- all others are free, whatever the hart did
  pub others_free : (j : ℕ) → j ≢ i → IsFree (hart_at g.sets w.seats j)
  others_free j ne = subst IsFree (sym (others_stay g v w i has.entry has.turn.made j ne)) (has.free j)

  -- where it is counted, and no more turns are taken behind it
  pub step_alone : (u : Tally) → u.fresh ≡ mid.fresh → ((set : ℕ) → ((j : ℕ) → names set j ≡ names mid.fresh j) → TakesCounted g v after 1 w i t (record u { fresh = set })) → HasAsked g v after i 1 w t u
  step_alone u same counted =
      let stale : (hart_at g.sets w.seats i).fresh ≡ false = still_stale g v w i has.entry has.turn.made (has.free i).1 in
      record {
        turns = λ set named. counted set (λ j. named j ∙ (λ k. put_at i (stale k) (names (same k)) j) ∙ stays_stale (names mid.fresh) i (stale_now i) j);
        others = others_free;
        stale = λ j. ap (λ (set : ℕ). names set j) same ∙ stale_now j;
      }

  pub other_asked : (u : Tally) (sent : ℕ) → sent ≡ v.sent
      → ((h : ℕ) (k : Kind) → Grows (count_at mid.harts h k) (number_in h k (counts_asked (shown g.sets w) sent w.sent None (Core i))) (count_at u.harts h k))
      → u.fresh ≡ mid.fresh → ((s : Sum) → Rises (sum_at mid.machine s) (one_if (is_same s Cores) + count_by (was_sent sent s) w.flights) (sum_at u.machine s))
      → u.machine.most_in_flight ≡ max mid.machine.most_in_flight (in_flight m) → u.machine.most_in_use ≡ max mid.machine.most_in_use (in_use m) → HasAsked g v after i 1 w t u
  other_asked u sent is asked fresh sums flying using =
      step_alone u fresh
      (λ set same.
      step_counted (record u { fresh = set })
      (λ h k. subst (λ (n : ℕ). Grows (count_at mid.harts h k) (number_in h k (counts_asked (shown g.sets w) n w.sent None (Core i))) (count_at u.harts h k)) is (asked h k)) same
      (λ s. subst (λ (n : ℕ). Rises (sum_at mid.machine s) (one_if (is_same s Cores) + count_by (was_sent n s) w.flights) (sum_at u.machine s)) is (sums s)) flying using)

-- ---- the hart goes on behind it

module _ (g : Geometry) (v w z : State) (after i number : ℕ) (e : Entry) (t u y : Tally) (has : HasAsked g v after i number w t u) (step : MakesStep g w (Core i) (Some e) z) where
  -- it is the hart's turn, where nothing is in flight and it is fresh
  pub goes_on : length w.flights ≡ 0 → (hart_at g.sets w.seats i).fresh ≡ true
      → ((set : ℕ) → ((j : ℕ) → names set j ≡ put_at i true (names u.fresh) j) → MakesCounted g w (Core i) z (record u { fresh = set }) y) → TakesCounted g v after (number + 1) z i t y
  goes_on quiet fresh made =
      let named = named_alone (names u.fresh) i has.stale in
      both_counted g v w z after i i number 1 t with_it y (has.turns with_it.fresh (λ j. named j ∙ (λ k. put_at i (sym fresh k) (names u.fresh) j)))
      (turn_counted g w z i (Core i) with_it y next (made with_it.fresh named))
    where
      with_it : Tally
      with_it = record u { fresh = 2 ^ i }

      not_both : (b : Bool) → b ≡ false → b ≡ true → ⊥
      not_both b off is = true≢false (sym is ∙ off)

      next : IsNextTurn (shown g.sets w) w.flights i (Some (Core i))
      next =
          let is = runs g w z i e step in (
            λ number f at. absurd (none-some f (sym (ap (λ (fs : List Flight). flight_at fs number) (empty_is w.flights quiet)) ∙ at)),
            inl (is.0, is.1, fresh, λ k lt running also. not_both (hart_at g.sets w.seats k).fresh (has.others k (λ same. omega (arith, lt, same))).1 also),
          )

  -- all harts are free then
  pub all_free_behind : AreFree (shown g.sets z)
  all_free_behind j = elim (cases_eq j i) [
    | inl same ↦ subst (λ k. IsFree (hart_at g.sets z.seats k)) (sym same) (told_frees g w z i e step)
    | inr ne ↦ subst IsFree (sym (others_stay g w z i (Some e) step j ne)) (has.others j ne)
  ]

-- where nothing is in flight, and all harts are free, it is quiescent
pub quiet_free : (sets : ℕ) (w : State) → length w.flights ≡ 0 → AreFree (shown sets w) → IsQuiescent sets w
quiet_free sets w quiet free = record { quiet = empty_is w.flights quiet; stale = λ k lt running fresh. true≢false (sym fresh ∙ (free k).1) }

-- all are free where all but one are, and that one doesn't wait, and isn't fresh
pub all_free_but : (w : Machine) (i : ℕ) → ((j : ℕ) → j ≢ i → IsFree (w.harts j)) → (w.harts i).fresh ≡ false → (w.harts i).request ≡ None → AreFree w
all_free_but w i others stale none j = elim (cases_eq j i) [
  | inl same ↦ subst (λ k. IsFree (w.harts k)) (sym same) (none, stale)
  | inr ne ↦ others j ne
]

-- ---- how its request is served

-- a block whose request isn't held isn't busy
not_busy : (i : ℕ) (o : Option Busy) (served : Served) → is_none (unless_busy o served) ≡ false → held_by i o ≡ []
not_busy i None served free = refl
not_busy i (Some busy) served free = absurd (cc)

-- refusals are counted for harts alone
refusals_beside : (r b : ℕ) (xs : List (ℕ × ForwardAnswer)) (t mid : Tally) → HearsReplies CountsEntry r b t xs mid → mid.fresh ≡ t.fresh
refusals_beside r b [] t mid same = sym (ap (λ (x : Tally). x.fresh) same)
refusals_beside r b (x ∷ xs) t mid (next, first, rest) = refusals_beside r b xs next mid rest ∙ ap (λ (y : Tally). y.fresh) first.rest

module _ (g : Geometry) (v w z : State) (i : ℕ) (r : Request) (get : GetIsSent g.sets v i r w) (x : Service) (xs : List (ℕ × ForwardAnswer)) (is : IsServed g w x xs z) where
  -- it is the hart's
  same_ask : ◌≡◌ {A = ℕ × ℕ} (is.request.requester, is.request.block) (i, r.block)
  same_ask = let sent = get.message is.first.number _ is.first.here in same_Some _ _ (ap asked_by sent.1)

  pub own : is.request.requester ≡ i
  own = ap (λ (a : ℕ × ℕ). a.0) same_ask

  -- and isn't held
  pub not_held : held_by i ((shown g.sets w).entries r.block).busy ≡ []
  not_held =
      let oldest : IsOldestFree (shown g.sets w) w.flights is.first.number = (is.first.turn 0).next in
      let message : shown_message oldest.flight.message ≡ Get is.request.requester is.request.block is.request.kind is.request.stamp =
      same_Some _ _ (sym (ap (λ (o : Option Flight). option_map shown_message (option_map (λ (f : Flight). f.message) o)) oldest.here) ∙ is.first.here) in
      let free : is_held (shown g.sets w) (Get is.request.requester is.request.block is.request.kind is.request.stamp) ≡ false = sym (ap (is_held (shown g.sets w)) message) ∙ oldest.free in
      ap (λ (b : ℕ). held_by i ((shown g.sets w).entries b).busy) (sym (ap (λ (a : ℕ × ℕ). a.1) same_ask))
      ∙ not_busy i ((shown g.sets w).entries is.request.block).busy _ free

  -- what it was counted as, whichever set of fresh harts is right
  module _ (mid y : Tally) (none : (j : ℕ) → names mid.fresh j ≡ false) (others : (j : ℕ) → j ≢ i → IsFree (hart_at g.sets z.seats j)) where
    either : (b : Bool) (p q : Bool) → p ≡ false → q ≡ false → (if b then p else q) ≡ false
    either true p q one other = one
    either false p q one other = other

    requester : x.requester ≡ i
    requester = is.requester ∙ own

    fresh_there : (set : ℕ) → ((j : ℕ) → names set j ≡ put_at i (hart_at g.sets z.seats i).fresh (names mid.fresh) j)
        → (j : ℕ) → names set j ≡ (if (x.requester == j) || names x.asked j then (hart_at g.sets z.seats j).fresh else names mid.fresh j)
    fresh_there set named j = elim (cases_eq j i) [
      | inl e ↦
          ap (names set) e ∙ named i ∙ put_there i (hart_at g.sets z.seats i).fresh (names mid.fresh) ∙ ap (λ (k : ℕ). (hart_at g.sets z.seats k).fresh) (sym e)
          ∙ sym (ap (λ (b : Bool). if b || names x.asked j then (hart_at g.sets z.seats j).fresh else names mid.fresh j) (eq-eqb x.requester j (requester ∙ sym e)))
      | inr ne ↦
          named j ∙ put_elsewhere i j (hart_at g.sets z.seats i).fresh (names mid.fresh) ne ∙ none j
          ∙ sym (either ((x.requester == j) || names x.asked j) (hart_at g.sets z.seats j).fresh (names mid.fresh j) (others j ne).1 (none j))
    ]

    notes : (set : ℕ) → ((j : ℕ) → names set j ≡ put_at i (hart_at g.sets z.seats i).fresh (names mid.fresh) j) → y ≡ record mid { machine = y.machine }
        → ((s : Sum) → sum_at y.machine s ≡ capped (sum_at mid.machine s + served_as s x)) → y.machine.most_in_flight ≡ max mid.machine.most_in_flight (1 + x.answers)
        → y.machine.most_in_use ≡ max (max mid.machine.most_in_use x.used) (length z.directory.kept) → NotesServed g.sets x z mid (record y { fresh = set })
    notes set named rest sums flying using = record {
      harts = λ h k.
          let empty : held_behind (shown g.sets z) x.requester x.block most_harts ≡ [] = none_behind (shown g.sets z) x.requester x.block (λ j ne. (others j (λ e. ne (e ∙ sym requester))).0) most_harts in
          subst₂ (λ (l : List (ℕ × Kind)) (now : Tally). Grows (count_at mid.harts h k) (number_in h k l) (count_at now.harts h k)) (sym empty) (sym rest) (no_more (count_at mid.harts h k));
      fresh = fresh_there set named;
      sums = sums;
      most_in_flight = flying;
      most_in_use = using;
    }

-- it is counted, with the step before it
module _ (g : Geometry) (v w z : State) (after i number : ℕ) (r : Request) (get : GetIsSent g.sets v i r w) (t u y : Tally) (serves : ServesCounted g w z number u y) where
  abbrev x : Service
  x = serves.service

  abbrev xs : List (ℕ × ForwardAnswer)
  xs = serves.replies

  abbrev mid : Tally
  mid = serves.heard

  -- only its hart and those that heard a message of it change
  others_still : ((j : ℕ) → j ≢ i → IsFree (hart_at g.sets w.seats j)) → (j : ℕ) → j ≢ i → IsFree (hart_at g.sets z.seats j)
  others_still free j ne = service_frees g w z x xs serves.served j (λ e. ne (e ∙ own g v w z i r get x xs serves.served)) (free j ne)

  -- none is fresh by the tally
  none_fresh_then : IsStale u → (j : ℕ) → names mid.fresh j ≡ false
  none_fresh_then stale j = ap (λ (set : ℕ). names set j) (refusals_beside x.requester x.block xs u mid serves.hears) ∙ stale j

  pub service_counted : TakesCounted g v after 1 w i t u → ((j : ℕ) → j ≢ i → IsFree (hart_at g.sets w.seats j)) → IsStale u → AreNumbered w.flights w.sent → HasAsked g v after i (1 + number) z t y
  service_counted before free stale are =
      let none = none_fresh_then stale in
      let others = others_still free in
      let same : y.fresh ≡ mid.fresh = ap (λ (q : Tally). q.fresh) serves.rest in
      record {
        turns = λ set named.
            let now : Tally = record y { fresh = set } in
            let named_then : (j : ℕ) → names set j ≡ put_at i (hart_at g.sets z.seats i).fresh (names mid.fresh) j = λ j. named j ∙ (λ k. put_at i (hart_at g.sets z.seats i).fresh (names (same k)) j) in
            let noted = notes g v w z i r get x xs serves.served mid y none others set named_then serves.rest serves.sums serves.most_in_flight serves.most_in_use in
            subst (λ n. TakesCounted g v after (1 + n) z i t now) (sym serves.turns_are)
            (both_counted g v w z after i i 1 (2 + 2 * x.answers + x.ended) t u now before (served_counted g w z x xs serves.served are u mid now serves.hears noted i));
        others = others;
        stale = λ j. ap (λ (set : ℕ). names set j) same ∙ none j;
      }
