-- Messages that arrive one after another.
use Rattle.std.proofs.Common.{◌≡◌, ◌≢◌, ◌++◌, ◌+◌, ◌∙◌, ℕ, ◌*◌, List, [], ◌∷◌, length, length-append, arith, refl, sym, ap, subst}
use Rattle.std.specs.Prelude.{slice_get, slice_set}
use Rattle.std.specs.Option.{option_map_or}
use Rattle.flat.specs.State.{idle}
use Rattle.hart.specs.Shown.{shown_hart}
use Rattle.protocol.specs.Caches.{Geometry}
use Rattle.protocol.specs.Start.{first_hart}
use Rattle.hart.specs.declared.reply.ForwardAnswer.{ForwardAnswer}
use Rattle.hart.specs.declared.reply.Settled.{Settled}
use Rattle.directory.specs.declared.rules.Request.{Request}
use Rattle.protocol.specs.Messages.{Message}
use Rattle.machine.specs.declared.serving.Service.{Service}
use Rattle.machine.specs.Serving.{Arrival, ArriveAll, IsServed, arrivals_behind, get_arrival, forward_arrivals, answer_arrivals, end_arrivals, end_of}
use Rattle.machine.specs.States.{Seat, State, hart_at}
use Rattle.machine.specs.Turns.{TakesMany}
use Rattle.machine.proofs.Places.{got_elsewhere}
use Rattle.machine.proofs.Taken.{none_taken, one_taken, both_taken}
use Rattle.words.specs.declared.entry.Step.TheVariants.{Deliver}

pub seats_beside : (sets i j : ℕ) (old new : List Seat) (s : Seat) → new ≡ slice_set old i s → i ≢ j → hart_at sets new j ≡ hart_at sets old j
seats_beside sets i j old new s is ne =
    ap (λ o. option_map_or (λ (t : Seat). shown_hart sets t.output t.hart) o (first_hart idle)) (ap (λ l. slice_get l j) is ∙ got_elsewhere old i j s (λ e. ne (sym e)))

module _ (g : Geometry) where
  -- some behind others
  pub arrive_both : (v u w : State) (ds bs : List Arrival) → ArriveAll g v ds u → ArriveAll g u bs w → ArriveAll g v (ds ++ bs) w
  arrive_both v u w [] bs same later = subst (λ (m : State). ArriveAll g m bs w) same later
  arrive_both v u w (a ∷ ds) bs (mid, first, rest) later = (mid, first, arrive_both mid u w ds bs rest later)

  -- these are turns
  pub arrive_turns : (v w : State) (ds : List Arrival) → ArriveAll g v ds w → (after : ℕ) → TakesMany g v after (length ds) w after
  arrive_turns v w [] same after = subst (λ (m : State). TakesMany g v after 0 m after) (sym same) (none_taken g v after)
  arrive_turns v w (a ∷ ds) (u, first, rest) after =
      let one : 1 + length ds ≡ length (a ∷ ds) = omega arith in
      subst (λ n. TakesMany g v after n w after) one
      (both_taken g v u w after after after 1 (length ds) (one_taken g v u after (Deliver first.number) a.entry (first.turn after)) (arrive_turns u w ds rest after))

-- how many arrive
module _ (q : Request) where
  as_many_forwards : (xs : List (ℕ × ForwardAnswer)) → length (forward_arrivals q xs) ≡ length xs
  as_many_forwards [] = refl
  as_many_forwards (x ∷ xs) = let rest : length (forward_arrivals q xs) ≡ length xs = as_many_forwards xs in omega (arith, rest)

  as_many_answers : (settled : Settled) (xs : List (ℕ × ForwardAnswer)) → length (answer_arrivals q xs settled) ≡ length xs
  as_many_answers settled [] = refl
  as_many_answers settled (x ∷ []) = refl
  as_many_answers settled (x ∷ y ∷ ys) = let rest : length (answer_arrivals q (y ∷ ys) settled) ≡ length (y ∷ ys) = as_many_answers settled (y ∷ ys) in omega (arith, rest)

as_many_ends : (ms : List Message) → length (end_arrivals ms) ≡ length ms
as_many_ends [] = refl
as_many_ends (m ∷ ms) = let rest : length (end_arrivals ms) ≡ length ms = as_many_ends ms in omega (arith, rest)

-- so many turns are taken where a request is served
pub arrivals_number : (g : Geometry) (v w : State) (s : Service) (xs : List (ℕ × ForwardAnswer)) (is : IsServed g v s xs w)
    → length (get_arrival is.request is.granted xs ∷ arrivals_behind is.request is.granted xs is.settled) ≡ 2 + 2 * s.answers + s.ended
arrivals_number g v w s xs is =
    let q = is.request in
    let heard : List Arrival = forward_arrivals q xs ++ answer_arrivals q xs is.settled in
    let all : length (heard ++ end_arrivals (end_of q is.settled)) ≡ length heard + length (end_arrivals (end_of q is.settled)) = length-append heard (end_arrivals (end_of q is.settled)) in
    let both : length heard ≡ length (forward_arrivals q xs) + length (answer_arrivals q xs is.settled) = length-append (forward_arrivals q xs) (answer_arrivals q xs is.settled) in
    omega (arith, all, both, as_many_forwards q xs, as_many_answers q is.settled xs, as_many_ends (end_of q is.settled), is.told.number_is, is.ended)

pub served_turns : (g : Geometry) (v w : State) (s : Service) (xs : List (ℕ × ForwardAnswer)) → IsServed g v s xs w → (after : ℕ) → TakesMany g v after (2 + 2 * s.answers + s.ended) w after
served_turns g v w s xs is after =
    subst (λ n. TakesMany g v after n w after) (arrivals_number g v w s xs is)
    (arrive_turns g v w (get_arrival is.request is.granted xs ∷ arrivals_behind is.request is.granted xs is.settled) (is.mid, is.first, is.rest) after)
